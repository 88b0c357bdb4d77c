-- The contract of `image::load::load`.
use native.Mathlib.Omega.{arith}
use Rattle.std.proofs.Common.{rules, sym}
use Rattle.rules.proofs.AnswerLaws.{refused-not_done, answer-refused}
use Rattle.image.specs.LoadLaws.{passes}
use Rattle.image.specs.LoadCalls.{admitted, loaded-refused, loaded-read}
use Rattle.image.proofs.load.load.Goals as goal

pub returns-in_err-admit : goal.returns-in_err-admit
returns-in_err-admit c =
    let a = c.args in
    rw (answer-refused _ _ _ _ _ c.from_residual.ensures.1) (loaded-refused a.bytes.now a.words.now a.scratch.now c.in_err-admit.ensures (refused-not_done _))

pub read_header-h-requires : goal.read_header-h-requires
read_header-h-requires c = let w = passes _ _ _ (sym c.in_ok-admit.ensures) in w.long

pub get_words-requires : goal.get_words-requires
get_words-requires c =
    let a = c.args in
    let w = admitted a.bytes.now a.words.now a.scratch.now c.in_ok-admit.ensures c.read_header-h.ensures in
    (omega arith, omega arith)

pub examine-verdict-requires : goal.examine-verdict-requires
examine-verdict-requires c =
    let a = c.args in
    let w = admitted a.bytes.now a.words.now a.scratch.now c.in_ok-admit.ensures c.read_header-h.ensures in
    (w.0, search rules, w.3)

pub settle-requires : goal.settle-requires
settle-requires c =
    let a = c.args in
    let w = admitted a.bytes.now a.words.now a.scratch.now c.in_ok-admit.ensures c.read_header-h.ensures in
    (w.0, search rules)

pub returns : goal.returns
returns c =
    let a = c.args in
    let w = passes _ _ _ (sym c.in_ok-admit.ensures) in
    loaded-read a.bytes.now a.words.now a.scratch.now w c.read_header-h.ensures c.get_words.ensures c.examine-verdict.ensures.0 c.examine-verdict.ensures.1 c.settle.ensures
