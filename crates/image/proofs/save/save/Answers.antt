-- The contract of `image::save::save`.
use Rattle.std.proofs.Common.{refl}
use lib.ListN.{length}
use Rattle.rules.proofs.AnswerLaws.{refused-not_done, reply-refused}
use Rattle.sound.specs.GuardLaws.{capacity-fits}
use Rattle.image.specs.SaveLaws.{saved-done, saved-refused}
use Rattle.image.proofs.save.save.Goals as goal

pub write_image-requires : goal.write_image-requires
write_image-requires c =
    let fit = c.in_ok-guard.ensures.exact.0 refl in
    capacity-fits (length c.args.words.now) c.args.h.used fit.0

pub returns : goal.returns
returns c =
    let a = c.args in
    let e = c.in_ok-guard.ensures.outcome in
    saved-done a.words.now a.h a.bytes.now a.scratch.now e.1 refl e.0 c.write_image.ensures

pub returns-in_err-guard : goal.returns-in_err-guard
returns-in_err-guard c =
    let a = c.args in
    let e = c.in_err-guard.ensures.outcome in
    rw (reply-refused _ _ _ c.from_residual.ensures.1) (saved-refused a.words.now a.h a.bytes.now a.scratch.now e.1 (refused-not_done _) e.0)
