-- The contract of `lists::lists::count_listed`.
use mathlib.Core.Path.{ap, sym, ◌∙◌}
use mathlib.Core.Logic.{inl}
use native.Mathlib.Omega.{arith}
use Prim.Native.Nat.{◌≤◌}
use lib.ListN.{length}
use borrow.Author.Rules.{rules}
use Rattle.std.proofs.Common.{tests}
use Rattle.std.proofs.lemmas.Iterator.Consumers.{YieldsList-at, YieldsList-from_first, YieldsList-from_filter, count_from_yields_List}
use Rattle.lists.specs.Orders.{along, next_descendant, keep_b}
use Rattle.lists.specs.OrderLinks.{down-ordered}
use Rattle.lists.specs.NodeLaws.{kept-filter, along-most}
use Rattle.lists.specs.OrderLaws.{ordered-most}
use Rattle.lists.specs.Nodes.{below_left, along_left}
use Rattle.lists.proofs.lists.count_listed.Goals as goal

pub count-requires-clause-fits : goal.count-requires-clause-fits
count-requires-clause-fits c =
    let a = c.args in
    let f = ap (λ s. length (below_left s)) c.filter.ensures.source in
    let e = ap length c.of-nodes.ensures in
    let b = along-most (next_descendant a.words.now a.used a.root) a.used a.root in
    inl (omega arith)

pub overflow_cast-result : goal.overflow_cast-result
overflow_cast-result c =
    let a = c.args in
    let f = ap (λ s. length (below_left s)) c.filter.ensures.source in
    let e = ap length c.of-nodes.ensures in
    let b = along-most (next_descendant a.words.now a.used a.root) a.used a.root in
    let n : c.count.result ≤ a.used = omega (arith, c.count.ensures.bound) in
    search rules

pub returns-then-goes_down : goal.returns-then-goes_down
returns-then-goes_down c =
    let a = c.args in
    let keep = keep_b a.words.now a.order in
    let nodes = along (next_descendant a.words.now a.used a.root) a.used a.root in
    count_from_yields_List c.filter.result c.count.result c.count.ensures.ran
    (YieldsList-from_filter _ keep (YieldsList-at c.filter.ensures.source (YieldsList-from_first (λ x. x) below_left nodes c.of-nodes.ensures)) c.filter.ensures.closure (λ x r q k. search (rules, tests)))
    ∙ ap length (kept-filter keep nodes ∙ down-ordered a.words.now a.used a.order a.root (sym c.goes_down.ensures ∙ c.if-goes_down.true))

pub count-requires-2-clause-fits : goal.count-requires-2-clause-fits
count-requires-2-clause-fits c =
    let a = c.args in
    let e = ap length (c.of.ensures (sym c.goes_down.ensures ∙ c.if-goes_down.false)) in
    let b = ordered-most a.words.now a.used a.order a.root in
    inl (omega arith)

pub overflow_cast-result-2 : goal.overflow_cast-result-2
overflow_cast-result-2 c =
    let a = c.args in
    let e = ap length (c.of.ensures (sym c.goes_down.ensures ∙ c.if-goes_down.false)) in
    let b = ordered-most a.words.now a.used a.order a.root in
    let n : c.count-2.result ≤ a.used = omega (arith, c.count-2.ensures.bound) in
    search rules

pub returns : goal.returns
returns c = count_from_yields_List c.of.result _ c.count-2.ensures.ran (YieldsList-from_first (λ x. x) along_left _ (c.of.ensures (sym c.goes_down.ensures ∙ c.if-goes_down.false)))
