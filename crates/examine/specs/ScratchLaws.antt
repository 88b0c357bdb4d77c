-- What a pass leaves alone of the scratch: its length, and all but its first 2 × used words.
-- So the words after a pass, once these are zeroed, are those before it. From the laws of writing to a list.
use Rattle.std.specs.Prelude.{◌≡◌, refl, List, ◌++◌, ℕ, ◌*◌, ◌≤◌, length, set, replicate}
use Rattle.std.proofs.Common.{ap, ◌∙◌, arith, length-set, drop-set-lt}
use Rattle.examine.specs.Scratch.{zeroed}

pub record Within (used : ℕ) (before after : List ℕ) : Type 0 where
  pub same_length : length after ≡ length before
  pub same-zeroed : zeroed (2 * used) after ≡ zeroed (2 * used) before

pub within_none : (used : ℕ) (scratch : List ℕ) → Within used scratch scratch
within_none used scratch = record { same_length = refl; same-zeroed = refl }

-- one write at none or at a slot in use, and more behind it
pub within-set : (used : ℕ) (scratch : List ℕ) (x v : ℕ) {after : List ℕ} → 1 ≤ used → x ≤ used → Within used (set scratch x v) after → Within used scratch after
unfolding zeroed
within-set used scratch x v a b w = record {
  same_length = w.same_length ∙ length-set scratch x v;
  same-zeroed = w.same-zeroed ∙ ap (λ (t : List ℕ). replicate (2 * used) 0 ++ t) (drop-set-lt (2 * used) scratch x v (omega arith));
}

pub within_both : (used : ℕ) {s t u : List ℕ} → Within used s t → Within used t u → Within used s u
within_both used v w = record { same_length = w.same_length ∙ v.same_length; same-zeroed = w.same-zeroed ∙ v.same-zeroed }
