-- Crate walker: the step of a walk that holds its memory. Its public function with plain parameters, with one outcome.
-- Excluded: a step free to end a walk early.
use Rattle.std.specs.Prelude.{◌≡◌}
use Rattle.std.proofs.Common.{sym, ◌∙◌}
use denote.Triple.Clauses.{AtExit}
use denote.Triple.Entry.{Args, Res}
use Rattle.determined.specs.Outcome.{OneOutcome, one_value}
use base.Logic.{SProp, ent, sep, fst∗, snd∗}
use contract.Lifetimes.{Lfts}
use contract.Monad.{Fun, fact, fact_i, fact_use}
use types.Logic.{Logic}
use seplogic.Ra.Ura.{Ura}
use prog.Memory.{Memory}
use prog.Routine.{Routine}
use Rattle.walker.specs.contracts.Walker.new
use Rattle.walker.specs.contracts.Walker.next
use Rattle.walker.proofs.walk_next

pub one-walk_next : OneOutcome walk_next.Kinds.ps walk_next.Kinds.r walk_next.Reads.Learnt
one-walk_next _ _ _ _ = one_value (λ t. (t, (tt, (tt, (tt, (tt, tt))))))

-- `new` and `next` hold a reference, and their statements are assertions of the logic: where both are said of two results, these are equal, at
-- every model. A walker holds no memory of its own.
module _ {M : Type 1} {𝓤 : Ura M} (𝓛 : Logic 𝓤) (memory : Memory → SProp 𝓤) (run : Routine → Fun 𝓤) (κs : Lfts 1) where
  -- Two facts give a third.
  both : {φ ψ χ : Type 0} → (φ → ψ → χ) → ent 𝓤 (sep 𝓤 (fact 𝓤 φ) (fact 𝓤 ψ)) (fact 𝓤 χ)
  both {φ} {ψ} {χ} f =
      fact_use 𝓤 φ (fst∗ 𝓤 (fact 𝓤 φ) (fact 𝓤 ψ)) (λ p.
      fact_use 𝓤 ψ (snd∗ 𝓤 (fact 𝓤 φ) (fact 𝓤 ψ)) (λ q. fact_i 𝓤 χ (sep 𝓤 (fact 𝓤 φ) (fact 𝓤 ψ)) (f p q)))

  pub one-new : (a : Args new.signature κs) (x y : Res new.signature κs) (e d : AtExit new.ended κs)
      → ent 𝓤 (sep 𝓤 ((new.clauses 𝓛 memory run κs a).ensures tt x e) ((new.clauses 𝓛 memory run κs a).ensures tt y d)) (fact 𝓤 (x ≡ y))
  one-new a x y e d =
      both (λ p q i. record {
        words = (p.0 ∙ sym q.0) i;
        used = (p.1 ∙ sym q.1) i;
        root = (p.2 ∙ sym q.2) i;
        next = (p.3 ∙ sym q.3) i;
      })

  pub one-next : (a : Args next.signature κs) (x y : Res next.signature κs) (e d : AtExit next.ended κs)
      → ent 𝓤 (sep 𝓤 ((next.clauses 𝓛 memory run κs a).ensures tt x e) ((next.clauses 𝓛 memory run κs a).ensures tt y d)) (fact 𝓤 (x ≡ y))
  one-next a x y e d = both (λ p q. p ∙ sym q)
