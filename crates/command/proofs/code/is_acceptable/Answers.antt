-- The contract of `command::code::is_acceptable`.
use mathlib.Core.Path.{◌≡◌, refl, sym, ◌∙◌}
use native.Mathlib.Omega.{arith}
use borrow.Author.Tests.{ne_eqb, le-ltb, lt-leb}
use borrow.Author.Rules.{rules}
use Rattle.command.specs.Codes.{acceptable}
use Rattle.command.specs.LimitLaws.{arguments-few, over_first, within_first}
use Rattle.command.proofs.code.is_acceptable.Goals as goal

pub returns-then-unused-ne0 : goal.returns-then-unused-ne0
unfolding acceptable
returns-then-unused-ne0 c = simp (ne_eqb c.args.code 0 (λ (e : c.args.code ≡ 0). let p = c.requires.0 in omega arith), le-ltb _ _ c.requires.1, ne_eqb _ _ c.if-unused-ne0.true)

pub bounds-at : goal.bounds-at
bounds-at c = let f = arguments-few c.args.code in let e = c.arguments_of.ensures in search rules

pub bounds-at-then-a-at : goal.bounds-at-then-a-at
bounds-at-then-a-at c = let f = arguments-few c.args.code in let e = c.arguments_of.ensures in search rules

pub returns-then-a-at : goal.returns-then-a-at
returns-then-a-at c =
    let a = c.args in let p = c.requires in
    within_first a.code a.unused a.a a.b p.0 p.1 c.if-unused-ne0.false refl c.arguments_of.ensures (search rules) (search rules) c.if-a-at.true

pub returns-else-a-at : goal.returns-else-a-at
returns-else-a-at c =
    let a = c.args in let p = c.requires in
    lt-leb _ _ c.if-a-at.false ∙ sym (over_first a.code a.unused a.a a.b p.0 p.1 c.if-unused-ne0.false refl c.arguments_of.ensures (search rules) c.if-a-at.false)
