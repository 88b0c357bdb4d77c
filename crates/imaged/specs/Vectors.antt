-- P2 of document 01: its memory is ready, and save writes its image of 95 bytes, these.
use Rattle.std.specs.Prelude.{◌≡◌, refl, List, [], ◌∷◌, true, ℕ, ◌≤◌, length}
use Rattle.std.proofs.Common.{ap, ◌∙◌, arith}
use Rattle.std.proofs.Math.Decide.{ℕ_discrete}
use Rattle.little_endian.specs.Bytes.{bytes_of, bytes_of_each}
use Rattle.link.specs.Words.{capacity_of, word, link}
use Rattle.link.specs.Found.{found_b}
use Rattle.rules.specs.Answers.{DONE, reply, header}
use Rattle.rules.specs.Sound.{Ready}
use Rattle.follow.specs.Point.{at}
use Rattle.follow.specs.Marks.{climb, scan}
use Rattle.examine.specs.Slots.{has_b, children_ok, next_ok, lead_ok, none_or_found_b, previous_ok, prior_slot, kin_ok, kin_of, look}
use Rattle.examine.specs.Chain.{free_word, met_spent, at_end, chain_run}
use Rattle.examine.specs.Verdicts.{ready_b}
use Rattle.examine.specs.Examination.{passes, all_pass, leading, links_ok, examined}
use Rattle.exact.specs.Exact.{examined-ready}
use Rattle.sound.specs.Guard.{scratch_after}
use Rattle.image.specs.Image.{prefix_of, image_of, laid}
use Rattle.image.specs.Save.{saved}
use Rattle.imaged.specs.Within.{save-writes}

-- The words of P2: slot 1 free, slots 2 and 3 a chain of two.
abbrev pub p2 : List ℕ
p2 =
    131071 ∷ 0 ∷ 0 ∷ 0 ∷ 0 ∷ 0 ∷ 0
    ∷ 0 ∷ 20 ∷ 0 ∷ 0 ∷ 196608 ∷ 0 ∷ 0
    ∷ 0 ∷ 30 ∷ 0 ∷ 131072 ∷ 0 ∷ 0 ∷ 0 ∷ []

-- mark, version, used, first free, last free; then a slot to a line
abbrev pub p2-bytes : List ℕ
p2-bytes =
    76 ∷ 70 ∷ 84 ∷ 1 ∷ 0 ∷ 3 ∷ 0 ∷ 1 ∷ 0 ∷ 1 ∷ 0
    ∷ 255 ∷ 255 ∷ 1 ∷ 0 ∷ 0 ∷ 0 ∷ 0 ∷ 0 ∷ 0 ∷ 0 ∷ 0 ∷ 0 ∷ 0 ∷ 0 ∷ 0 ∷ 0 ∷ 0 ∷ 0 ∷ 0 ∷ 0 ∷ 0 ∷ 0 ∷ 0 ∷ 0 ∷ 0 ∷ 0 ∷ 0 ∷ 0
    ∷ 0 ∷ 0 ∷ 0 ∷ 0 ∷ 20 ∷ 0 ∷ 0 ∷ 0 ∷ 0 ∷ 0 ∷ 0 ∷ 0 ∷ 0 ∷ 0 ∷ 0 ∷ 0 ∷ 0 ∷ 0 ∷ 3 ∷ 0 ∷ 0 ∷ 0 ∷ 0 ∷ 0 ∷ 0 ∷ 0 ∷ 0 ∷ 0
    ∷ 0 ∷ 0 ∷ 0 ∷ 0 ∷ 30 ∷ 0 ∷ 0 ∷ 0 ∷ 0 ∷ 0 ∷ 0 ∷ 0 ∷ 0 ∷ 0 ∷ 2 ∷ 0 ∷ 0 ∷ 0 ∷ 0 ∷ 0 ∷ 0 ∷ 0 ∷ 0 ∷ 0 ∷ 0 ∷ 0 ∷ 0 ∷ 0 ∷ []

pub P2_image : (image_of p2 (header 3 1 1) ≡ p2-bytes) × (length p2-bytes ≡ 95)
unfolding image_of prefix_of bytes_of bytes_of_each
P2_image = (refl, refl)

examined-p2 : ready_b (examined p2 (header 3 1 1)) ≡ true
unfolding examined links_ok all_pass passes leading look kin_of kin_ok prior_slot previous_ok none_or_found_b lead_ok next_ok children_ok has_b found_b link word scan climb at chain_run at_end met_spent free_word ℕ_discrete
examined-p2 = refl

pub P2-ready : Ready p2 (header 3 1 1)
P2-ready = (examined-ready p2 (header 3 1 1)).0 examined-p2

capacity : 3 ≤ capacity_of 21
unfolding capacity_of
capacity = omega arith

pub P2-saved : (scratch bytes : List ℕ) → 6 ≤ length scratch → 95 ≤ length bytes
    → saved p2 (header 3 1 1) scratch bytes ≡ (scratch_after p2 (header 3 1 1) scratch, laid p2-bytes bytes, reply DONE 95)
P2-saved scratch bytes room room' =
    save-writes p2 (header 3 1 1) scratch bytes (record { frame = capacity; scratch-room = room; ready = P2-ready; room = room' })
    ∙ ap (λ (xs : List ℕ). (scratch_after p2 (header 3 1 1) scratch, laid xs bytes, reply DONE 95)) P2_image.0
