-- The contract of `image::save::write_image`.
use mathlib.Core.Path.{◌≡◌, ◌∙◌, ap}
use Prim.Native.Nat.{ℕ, ◌≤◌}
use native.Mathlib.Omega.{arith}
use lib.ListN.{length}
use Rattle.rules.specs.Answers.{DONE, reply}
use Rattle.image.specs.Image.{image_length}
use Rattle.image.specs.SaveLaws.{written-room, written-done}
use Rattle.image.proofs.save.write_image.Goals as goal

pub returns-then-bytes-length : goal.returns-then-bytes-length
returns-then-bytes-length c =
    let a = c.args in
    let e = c.image_length-length.ensures in
    written-room a.words.now a.h a.bytes.now (omega arith)

pub returns : goal.returns
returns c =
    let a = c.args in
    let e : c.image_length-length.result ≡ image_length a.h.used = c.image_length-length.ensures in
    let room : image_length a.h.used ≤ length a.bytes.now = omega arith in
    ap (λ (n : ℕ). (c.put_words.new.bytes, reply DONE n)) e
    ∙ written-done a.words.now a.h a.bytes.now c.requires.1 room c.write_prefix.ensures c.put_words.ensures
