-- Statements that do not determine an outcome, and are caught: one that is silent, and one that says how long what is left is and no more.
use Rattle.std.specs.Prelude.{◌≡◌, refl, [], ◌∷◌, ℕ, length, get_or}
use Rattle.std.proofs.Common.{ap, arith}
use contract.Lifetimes.{Lfts}
use borrow.Fn.Kinds.{Dens}
use Rattle.examine.proofs.examine.zero_fill
use Rattle.determined.specs.Outcome.{OneOutcome}

-- Of `zero_fill`, lent scratch and asked to set its first words to zero.
pub silent_fails : (κs : Lfts 1) (a : Dens κs zero_fill.Kinds.ps) → OneOutcome zero_fill.Kinds.ps zero_fill.Kinds.r (λ _ _ _ _. Unit {0}) → ⊥
silent_fails κs a one =
    let e : ◌≡◌ {A = ℕ} 0 1 = ap (λ x. get_or x.1.0 0 0) (one κs a (tt, (0 ∷ [], (tt, tt))) (tt, (1 ∷ [], (tt, tt))) tt tt) in
    omega arith

pub length-alone_fails : (κs : Lfts 1) (a : Dens κs zero_fill.Kinds.ps)
    → OneOutcome zero_fill.Kinds.ps zero_fill.Kinds.r (λ _ _ _ e. length e.0.now ≡ 1) → ⊥
length-alone_fails κs a one =
    let e : ◌≡◌ {A = ℕ} 0 1 = ap (λ x. get_or x.1.0 0 0) (one κs a (tt, (0 ∷ [], (tt, tt))) (tt, (1 ∷ [], (tt, tt))) refl refl) in
    omega arith
