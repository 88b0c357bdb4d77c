-- Stamps never come again.
use Rattle.std.specs.Prelude.{◌≡◌, refl, ℕ, zero, suc, ℤ, pos}
use Rattle.std.proofs.Common.{sym, ap, ◌∙◌}
use Rattle.link.specs.Stamps.{removed_stamp, reused_stamp, handed_out}
use Rattle.link.specs.StampLaws.{removed-reused}

-- The n-th hand-out has stamp n,
pub handed_out_lem : (n : ℕ) → handed_out n ≡ pos n
unfolding handed_out
handed_out_lem zero = refl
handed_out_lem (suc n) = ap (λ (z : ℤ). reused_stamp (removed_stamp z)) (handed_out_lem n) ∙ removed-reused n

-- so a stamp handed out is never handed out again.
pub never-again : (i j : ℕ) → handed_out i ≡ handed_out j → i ≡ j
never-again i j e = let q : pos i ≡ pos j = sym (handed_out_lem i) ∙ e ∙ handed_out_lem j in cc
