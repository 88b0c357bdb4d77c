-- Load: its own order of tests, and what is left of memory, scratch and header, on any bytes and any memory.
-- Excluded: VERSION before MARK; a header kept by a refused load; the destination's words left standing after INVALID.
use Rattle.std.specs.Prelude.{Bool, cond, not, List, ℕ, ◌*◌, eqb, ltb, length, Result}
use Rattle.link.specs.Words.{width, capacity_of}
use Rattle.link.specs.declared.header.Header.{Header}
use Rattle.rules.specs.Answers.{DONE, SCRATCH, INVALID, ROOM, MARK, VERSION, LENGTH, answer, answer_changed, header}
use Rattle.rules.specs.declared.answer.Refusal.{Refusal}
use Rattle.rules.specs.declared.answer.Answer.{Answer}
use Rattle.examine.specs.Scratch.{zeroed}
use Rattle.examine.specs.Verdicts.{sound_b}
use Rattle.examine.specs.Examination.{examined}
use Rattle.examine.specs.declared.chain.Verdict.{Verdict}
use Rattle.examine.specs.declared.chain.Verdict.TheVariants.{Unsound, Spent, Ready}
use Rattle.image.specs.Image.{version, prefix, image_length, marked_b, version_in, used_in, header_in, words_in, laid}
use Rattle.image.specs.Unlink.{unlinked}

-- Load tests LENGTH (under 11), MARK, VERSION, LENGTH (whole), ROOM, SCRATCH, INVALID.
unfoldable pub load_refusal : Bool → Bool → Bool → Bool → Bool → Bool → Bool → ℕ
load_refusal short mark version whole room scratch invalid =
    cond short LENGTH
    (cond mark MARK
    (cond version VERSION
    (cond whole LENGTH
    (cond room ROOM
    (cond scratch SCRATCH
    (cond invalid INVALID
    DONE))))))

-- The number, with `invalid` for the last test.
unfoldable pub load_no_with : Bool → List ℕ → ℕ → ℕ → ℕ
load_no_with invalid bytes lent scratch =
    load_refusal
    (ltb (length bytes) prefix)
    (not (marked_b bytes))
    (not (eqb (version_in bytes) version))
    (not (eqb (length bytes) (image_length (used_in bytes))))
    (ltb (capacity_of lent) (used_in bytes))
    (ltb scratch (2 * used_in bytes))
    invalid

-- Sound is what the image's own words and header are.
unfoldable pub load_no : List ℕ → ℕ → ℕ → ℕ
load_no bytes lent scratch = load_no_with (not (sound_b (examined (words_in bytes) (header_in bytes)))) bytes lent scratch

-- The header answered by any refused load is all zero.
abbrev pub refused_load : ℕ → Answer
refused_load number = answer (header 0 0 0) number 0

-- What a load hands back, in numbers: the header that it leaves, or a refusal with a header all zero.
abbrev pub loaded_of : Result Header Refusal → Answer
loaded_of = answer_changed (header 0 0 0)

-- Words, scratch and answer.
unfoldable pub loaded : List ℕ → List ℕ → List ℕ → List ℕ × List ℕ × Answer
loaded bytes words scratch =
    let no = load_no bytes (length words) (length scratch) in
    let after = unlinked (words_in bytes) (header_in bytes) in
    cond (eqb no DONE)
    (laid after.0 words, zeroed (2 * used_in bytes) scratch, answer after.1 DONE 0)
    (cond (eqb no INVALID)
    (zeroed (width * used_in bytes) words, zeroed (2 * used_in bytes) scratch, refused_load INVALID)
    (words, scratch, refused_load no))

-- The same by what the examination finds, over memory that has the image's words already: how the code goes.
abbrev pub settled : Verdict → List ℕ → Header → List ℕ × Answer
settled Unsound m h = (zeroed (width * h.used) m, refused_load INVALID)
settled Spent m h = let after = unlinked m h in (after.0, answer after.1 DONE 0)
settled Ready m h = (m, answer h DONE 0)
