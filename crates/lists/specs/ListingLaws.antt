-- A list call put together from its parts: the tests that refuse, the guard before them, and what is written.
-- From the definitions, by cases on the tests.
use Rattle.std.specs.Prelude.{◌≡◌, Bool, true, false, not, ltb, length, Result}
use Rattle.std.specs.Result.{IsErrAnd}
use Rattle.std.proofs.Common.{sym, ◌∙◌}
use Rattle.std.proofs.Math.Path.{ap}
use mathlib.Core.List.{List}
use Prim.Native.Nat.{ℕ, ◌<◌, ◌≤◌}
use borrow.Author.Tests.{eq-eqb, ne_eqb, lt-ltb, le-ltb, ltb-true, ltb-false, not-true, not-false}
use Rattle.link.specs.Found.{found_b}
use Rattle.link.specs.declared.header.Header.{Header}
use Rattle.rules.specs.Answers.{DONE, REMOVED, ROOM, refusal, reply, refusal_no, reply_by}
use Rattle.rules.specs.declared.answer.Refusal.{Refusal}
use Rattle.rules.specs.declared.answer.Reply.{Reply}
use Rattle.rules.proofs.AnswerLaws.{refused-not_done, reply-refused}
use Rattle.sound.specs.Guard.{scratch_after, guard_no, guarded_read}
use Rattle.walk.specs.Written.{written}
use Rattle.lists.specs.Orders.{ordered}
use Rattle.lists.specs.Storing.{stored_at}
use Rattle.lists.specs.OrderLaws.{stored-whole}
use Rattle.lists.specs.Levels.{level_order}
use Rattle.lists.specs.Listing.{list_no, listing, listed, levels_listed, counted, guarded_list}
use Rattle.lists.specs.declared.order.Order.{Order}
use Rattle.lists.specs.declared.order.Order.TheVariants.{Descendants}

module _ (m : List ℕ) (used x n : ℕ) (xs places : List ℕ) where
  listing-removed : found_b m used x ≡ false → (places, reply REMOVED 0) ≡ listing m used x n xs places
  unfolding listing list_no refusal
  listing-removed f = simp f

  listing-room : found_b m used x ≡ true → length places < n → (places, reply ROOM 0) ≡ listing m used x n xs places
  unfolding listing list_no refusal
  listing-room f h = simp (f, lt-ltb (length places) n h)

  listing-done : found_b m used x ≡ true → n ≤ length places → {places' : List ℕ} {count : ℕ}
      → places' ≡ written xs places → count ≡ length xs → (places', reply DONE count) ≡ listing m used x n xs places
  unfolding listing list_no refusal
  listing-done f h e c = simp (f, le-ltb (length places) n h) (cc)

-- By an order; `fits` is what the code asks before it writes.
module _ (m : List ℕ) (used : ℕ) (order : Order) (x : ℕ) (places : List ℕ) where
  pub fits-room : {fits : Bool} → fits ≡ not (ltb (length places) (length (ordered m used order x))) → fits ≡ true
      → length (ordered m used order x) ≤ length places
  fits-room e t = ltb-false (length places) (length (ordered m used order x)) (not-true _ (sym e ∙ t))

  pub listed-removed : found_b m used x ≡ false → (places, reply REMOVED 0) ≡ listed m used order x places
  unfolding listed
  listed-removed f = listing-removed m used x (length (ordered m used order x)) (ordered m used order x) places f

  pub listed-room : {fits : Bool} → found_b m used x ≡ true → fits ≡ not (ltb (length places) (length (ordered m used order x))) → fits ≡ false
      → (places, reply ROOM 0) ≡ listed m used order x places
  unfolding listed
  listed-room f e t = listing-room m used x (length (ordered m used order x)) (ordered m used order x) places f
      (ltb-true (length places) (length (ordered m used order x)) (not-false _ (sym e ∙ t)))

  pub listed-done : {places' : List ℕ} {count : ℕ} → found_b m used x ≡ true → length (ordered m used order x) ≤ length places
      → (places', count) ≡ stored_at (ordered m used order x) places 0 → (places', reply DONE count) ≡ listed m used order x places
  unfolding listed
  listed-done f h e =
      let w = stored-whole (ordered m used order x) places h e in
      listing-done m used x (length (ordered m used order x)) (ordered m used order x) places f h w.0 w.1

-- In level order; `size` is what the code counts first.
module _ (m : List ℕ) (used x : ℕ) (places : List ℕ) where
  pub levels-removed : found_b m used x ≡ false → (places, reply REMOVED 0) ≡ levels_listed m used x places
  unfolding levels_listed
  levels-removed f = listing-removed m used x (length (ordered m used Descendants x)) (level_order m (length (ordered m used Descendants x)) x) places f

  pub levels-room : (size : ℕ) → size ≡ length (ordered m used Descendants x) → found_b m used x ≡ true → length places < size
      → (places, reply ROOM 0) ≡ levels_listed m used x places
  unfolding levels_listed
  levels-room size e f h = rw (sym e) (listing-room m used x size (level_order m size x) places f h)

  pub levels-done : (size : ℕ) {places' : List ℕ} {count : ℕ} → size ≡ length (ordered m used Descendants x) → found_b m used x ≡ true → size ≤ length places
      → (places' ≡ written (level_order m size x) places) × (count ≡ length (level_order m size x)) → (places', reply DONE count) ≡ levels_listed m used x places
  unfolding levels_listed
  levels-done size e f h w = rw (sym e) (listing-done m used x size (level_order m size x) places f h w.0 w.1)

module _ (m : List ℕ) (used x : ℕ) where
  pub counted-done : found_b m used x ≡ true → {count : ℕ} → count ≡ length (ordered m used Descendants x) → reply DONE count ≡ counted m used x
  unfolding counted refusal
  counted-done f e = simp f (ap (reply DONE) e)

  pub counted-removed : found_b m used x ≡ false → reply REMOVED 0 ≡ counted m used x
  unfolding counted refusal
  counted-removed f = simp f

module _ (m : List ℕ) (h : Header) (scratch : List ℕ) {scratch' : List ℕ} {no : ℕ}
    (after : scratch' ≡ scratch_after m h scratch) (said : no ≡ guard_no m h (length scratch)) where
  pub guarded-done : (places : List ℕ) {places' : List ℕ} {r : Reply} {work : List ℕ × Reply} → no ≡ DONE → (places', r) ≡ work
      → (scratch', places', r) ≡ guarded_list m h scratch places work
  unfolding guarded_list
  guarded-done places {places'} {r} {work} d e =
      simp (eq-eqb (guard_no m h (length scratch)) DONE (sym said ∙ d)) (ap (λ (s : List ℕ). with s (places', r)) after ∙ ap (with (scratch_after m h scratch)) e)
    where
      with : List ℕ → List ℕ × Reply → List ℕ × List ℕ × Reply
      with s p = (s, p.0, p.1)

  pub guarded-refused : (places : List ℕ) (work : List ℕ × Reply) → (no ≡ DONE → ⊥)
      → (scratch', places, reply no 0) ≡ guarded_list m h scratch places work
  unfolding guarded_list
  guarded-refused places work d = simp (ne_eqb (guard_no m h (length scratch)) DONE (λ e. d (said ∙ e))) (cc)

  pub read_done : {r work : Reply} → no ≡ DONE → r ≡ work → (scratch', r) ≡ guarded_read m h scratch work
  unfolding guarded_read
  read_done d e = simp (eq-eqb (guard_no m h (length scratch)) DONE (sym said ∙ d)) (cc)

  pub read-refused : (work : Reply) → (no ≡ DONE → ⊥) → (scratch', reply no 0) ≡ guarded_read m h scratch work
  unfolding guarded_read
  read-refused work d = simp (ne_eqb (guard_no m h (length scratch)) DONE (λ e. d (said ∙ e))) (cc)

  -- At the exit of a `?` on the guard, whose refusal e is what the call answers.
  pub list-err : {A : Type 0} (value : A → ℕ) (places : List ℕ) (work : List ℕ × Reply) (r : Result A Refusal) (e : Refusal)
      → no ≡ refusal_no e → IsErrAnd r (λ y. y ≡ e) → (scratch', places, reply_by value r) ≡ guarded_list m h scratch places work
  list-err value places work r e n w =
      ap (λ (x : Reply). (scratch', places, x)) (reply-refused value r e w ∙ ap (λ (k : ℕ). reply k 0) (sym n))
      ∙ guarded-refused places work (λ d. refused-not_done e (sym n ∙ d))
