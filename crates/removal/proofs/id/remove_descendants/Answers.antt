-- The contract of `removal::id::remove_descendants`.
use mathlib.Core.Path.{◌≡◌, refl, sym, ap, ◌∙◌, subst}
use mathlib.Core.List.{List}
use Prim.Native.Nat.{ℕ, ◌+◌, ◌-◌}
use native.Mathlib.Omega.{arith}
use borrow.Author.Rules.{rules}
use borrow.Author.Tests.{eq-eqb, ne_eqb}
use Rattle.removal.specs.declared.id.Turn.{Turn}
use Rattle.removal.specs.Descendants.{remove_descendants, turns_for}
use Rattle.removal.specs.Freeable.{Freeable}
use Rattle.removal.specs.DescendantLaws.{descendants-out, descendants-step, turn_freeable}
use Rattle.removal.proofs.id.remove_descendants.Goals.{else-loop-test, then-loop-test+then-at-eq0}
use Rattle.removal.proofs.id.remove_descendants.Goals as goal

pub loop-init : goal.loop-init
loop-init c = let all : turns_for c.args.h.used - 0 ≡ turns_for c.args.h.used = omega arith in (refl, c.requires.0, rw all)

pub turn_below-at-requires : goal.turn_below-at-requires
turn_below-at-requires c = let l = c.loop in (l.invariant.1.1, l.invariant.1.2)

pub loop-preserved : goal.loop-preserved
loop-preserved c =
    let l = c.loop in
    let x = c.args.id in
    let left = turns_for c.args.h.used - l.counter in
    let e = c.turn_below-at.ensures in
    let fewer : turns_for c.args.h.used - (l.counter + 1) ≡ left - 1 = omega arith in (
      search rules,
      subst (λ (p : List ℕ × Turn). Freeable p.0 p.1.header x) (sym e) (turn_freeable l.words l.at.header x l.invariant.1 l.at.cursor),
      rw fewer (
          ap (λ (p : List ℕ × Turn). remove_descendants (left - 1) p.0 p.1.header x p.1.cursor) e
          ∙ sym (simp (ne_eqb l.at.cursor 0 c.if-at-eq0.false) at (descendants-step left l.words l.at.header x l.at.cursor (omega arith)))
          ∙ l.invariant.2),
    )

pub returns : goal.returns
returns c =
    let l = c.loop in
    let left = turns_for c.args.h.used - l.counter in
    elim c.loop-test.branch [
      | else-loop-test w ↦ sym (descendants-out left _ _ _ _ (omega arith)) ∙ l.invariant.2
      | then-loop-test+then-at-eq0 w ↦
          sym (simp (eq-eqb l.at.cursor 0 w.if-at-eq0.true) at (descendants-step left l.words l.at.header c.args.id l.at.cursor (omega arith))) ∙ l.invariant.2
    ]
