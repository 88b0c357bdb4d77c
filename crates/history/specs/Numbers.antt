-- What get answers of a found node is the number that its slot holds; so it is the number last stored.
use Rattle.std.specs.Prelude.{◌≡◌, refl, ◌↔◌, List, ℕ}
use Rattle.std.proofs.Common.{sym, ap, ◌∙◌}
use Rattle.link.specs.Words.{NUMBER}
use Rattle.link.specs.WordLaws.{link-some}
use Rattle.link.specs.FoundLaws.{is_found}
use Rattle.rules.specs.Answers.{DONE, reply}
use Rattle.arena.specs.Reads.{read_word}
use Rattle.arena.specs.ReadLaws.{named-done, read_done}
use Rattle.history.specs.Calls.{Memory, get, replies, result_of, called}
use Rattle.history.specs.History.{Event, FoundIn}
use Rattle.history.specs.Steps.{number_in}
use Rattle.history.specs.Invariant.{LastStored, Good}

module _ (size : ℕ) (w : Memory) (es : List Event) (G : Good size w es) (x : ℕ) (f : FoundIn w x) where
  read_number : read_word NUMBER w.words w.header x ≡ reply DONE (number_in w x)
  read_number = sym (read_done w.words w.header x NUMBER
      (sym (named-done w.words w.header x G.fine.fits (is_found w.words w.header.used x f))) refl (sym (link-some w.words x NUMBER f.from)))

  pub get_exactly : (n : ℕ) → ((called (get x) w).1 ≡ replies (reply DONE n)) ↔ LastStored x n es
  get_exactly n =
      let q = G.number x f n in (
        λ e. q.0 (ap result_of (sym (ap replies read_number) ∙ e)),
        λ l. ap replies (read_number ∙ ap (reply DONE) (q.1 l)),
      )
