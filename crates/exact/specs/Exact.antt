-- The examination of memory, on any words and any header: its verdict is not Unsound exactly when memory is sound,
-- and Ready exactly when it is ready. From the theorems on the three passes.
use Rattle.std.specs.Prelude.{◌≡◌, refl, ◌↔◌, Bool, cond, List, ℕ, ◌+◌}
use Rattle.std.proofs.Common.{sym, ◌∙◌}
use Rattle.std.proofs.Math.Bool.{true, false, and-eq-true_iff}
use Rattle.std.proofs.lemmas.Bool.{false≢true}
use Rattle.link.specs.Found.{Found}
use Rattle.link.specs.declared.header.Header.{Header}
use Rattle.rules.specs.Links.{view}
use Rattle.rules.specs.Sound.{SoundLinks, Sound, Ready}
use Rattle.forest.specs.Found.{found-nodes}
use Rattle.forest.specs.Local.{tests-sound, sound-tests, sound-ends}
use Rattle.examine.specs.Chain.{chain_run}
use Rattle.examine.specs.Verdicts.{sound_b, ready_b, ready-sound}
use Rattle.examine.specs.Examination.{all_pass, links_ok, examined}
use Rattle.examine.specs.declared.chain.Verdict.{Verdict}
use Rattle.examine.specs.declared.chain.Verdict.TheVariants.{Unsound}
use Rattle.exact.specs.FirstPass.{Kinds, first-pass}
use Rattle.exact.specs.Climbs.{no_cycle}
use Rattle.exact.specs.Chain.{chain-sound, chain-ready}

-- The two halves of `links-sound`.
module _ (m : List ℕ) (used : ℕ) where
  links-to : links_ok m used ≡ true → Kinds m used × SoundLinks (view m) (Found m used)
  unfolding links_ok
  links-to e =
      let (a, b) = (and-eq-true_iff (all_pass used m used 1) _).0 e in
      let (K, T) = (first-pass m used).0 a in
      (K, tests-sound (view m) (Found m used) (found-nodes m used) T ((no_cycle m used K T).0 b))

  links-from : Kinds m used × SoundLinks (view m) (Found m used) → links_ok m used ≡ true
  unfolding links_ok
  links-from (K, S) =
      let T = sound-tests (view m) (Found m used) (found-nodes m used) S in
      (and-eq-true_iff (all_pass used m used 1) _).1 ((first-pass m used).1 (K, T), (no_cycle m used K T).1 (sound-ends (view m) (Found m used) (found-nodes m used) S))

-- The two passes over links say yes exactly when every live slot has kind 0 and the links of live nodes are sound:
-- the tests of each node are those of `Local`, and climbing ends exactly when predecessors do.
pub links-sound : (m : List ℕ) (used : ℕ) → (links_ok m used ≡ true) ↔ (Kinds m used × SoundLinks (view m) (Found m used))
links-sound m used = (links-to m used, links-from m used)

module _ (m : List ℕ) (h : Header) where
  abbrev last-pass : Verdict
  last-pass = chain_run (h.used + 1) m h.used h.last false 0 h.first

  by-passes : (yes_of : Verdict → Bool) → yes_of Unsound ≡ false → (yes_of (examined m h) ≡ true) ↔ ((links_ok m h.used ≡ true) × (yes_of last-pass ≡ true))
  unfolding examined
  by-passes yes_of n = go (links_ok m h.used)
    where
      go : (b : Bool) → (yes_of (cond b last-pass Unsound) ≡ true) ↔ ((b ≡ true) × (yes_of last-pass ≡ true))
      go true = (λ e. (refl, e), λ w. w.1)
      go false = (λ e. absurd (false≢true (sym n ∙ e)), λ w. absurd (false≢true w.0))

  -- One half of `examined-sound`.
  sound-to : sound_b (examined m h) ≡ true → Sound m h
  sound-to e =
      let (a, b) = (by-passes sound_b refl).0 e in
      let (K, S) = links-to m h.used a in
      record { kind = K; links = S; free = (chain-sound m h.used h.last h.first).0 b }

  -- The examination answers Ready or Spent exactly when memory is sound, over any words, of which those past the end are 0.
  -- Excluded: a sound memory that is refused; two nodes that are each other's next, accepted.
  pub examined-sound : (sound_b (examined m h) ≡ true) ↔ Sound m h
  examined-sound = (
    sound-to,
    λ S. (by-passes sound_b refl).1 (links-from m h.used (S.kind, S.links), (chain-sound m h.used h.last h.first).1 S.free),
  )

  -- It answers Ready exactly when memory is ready.
  -- Excluded: a spent slot on the free chain, accepted as ready; a spent slot off it, taken for a fault.
  pub examined-ready : (ready_b (examined m h) ≡ true) ↔ Ready m h
  examined-ready = (
    λ e.
        let S = sound-to (ready-sound (examined m h) e) in
        record { sound = S; unspent = (chain-ready m h.used h.last h.first S.free).0 ((by-passes ready_b refl).0 e).1 },
    λ R.
        let S = R.sound in
        (by-passes ready_b refl).1 (links-from m h.used (S.kind, S.links), (chain-ready m h.used h.last h.first S.free).1 R.unspent),
  )
