-- From an effect on memory to what a history sees of a call; then the calls that read, which leave words and header, and set.
use Rattle.std.specs.Prelude.{◌≡◌, refl, ◌≢◌, ◌⊎◌, ◌↔◌, Bool, true, false, cond, List, [], ℕ, ◌*◌, ◌≤◌, eqb, length}
use Rattle.std.proofs.Common.{sym, ap, ◌∙◌, inl, inr, arith, eq-eqb, ne_eqb}
use Rattle.std.proofs.Math.Decide.{ℕ_discrete}
use Rattle.link.specs.Ids.{slot_of, stamp_of}
use Rattle.link.specs.Words.{STAMP, NUMBER, capacity_of, word, set_link}
use Rattle.link.specs.FoundLaws.{found_is}
use Rattle.link.specs.declared.header.Header.{Header}
use Rattle.rules.specs.Answers.{DONE, reply}
use Rattle.rules.specs.declared.answer.Reply.{Reply}
use Rattle.rules.specs.Lists.{In, Off}
use Rattle.rules.specs.Sound.{Ready}
use Rattle.forest.specs.Lists.{not_in_off, off-not_in}
use Rattle.forest.specs.Found.{found_one}
use Rattle.sound.specs.Guard.{fit_no, scratch_after, validated, guard_no, guarded_read}
use Rattle.sound.specs.GuardLaws.{fit-done, scratch-fits, scratch-unfit}
use Rattle.arena.specs.Reads.{named_no, set_number}
use Rattle.arena.specs.ReadLaws.{named_is}
use Rattle.arena.specs.Census.{census_call, live_call}
use Rattle.keeps.specs.Set.{set-length, set_other, set-number, set-refused, set-ready}
use Rattle.lists.specs.Listing.{guarded_list}
use Rattle.subtree.specs.Compare.{compared, subtrees_compared}
use Rattle.image.specs.Save.{guarded_write, saved}
use Rattle.command.specs.KnownLaws.{zeroed-length}
use Rattle.history.specs.Calls.{Memory, memory, Reading, single, validate, census, counts_live, counts_descendants, list, levels, compare, compare_with, compare_from, start, walk, save, Call, set, read, Told, replies, read_by, called}
use Rattle.history.specs.History.{FoundIn, handed_by, TakenBy}
use Rattle.history.specs.Effect.{Effect, Still, still-found, effect-still}
use Rattle.history.specs.Steps.{Fine, StoredNow, KeptNow, Step}

-- ---- an effect is a step

module _ (w : Memory) (F : Fine w) (c : Call) (r : Memory × Told) (made gone : List ℕ)
    (E : Effect w.words w.header r.0.words r.0.header made gone)
    (ready : Ready r.0.words r.0.header) (fits : r.0.header.used ≤ capacity_of (length r.0.words))
    (size : length r.0.words ≡ length w.words) (spare : length r.0.scratch ≡ length w.scratch)
    (hands : handed_by c r.1 ≡ made) (takes : (y : ℕ) → FoundIn w y → In y gone ↔ TakenBy w c r.1 y)
    (number : (y : ℕ) → FoundIn r.0 y → StoredNow w c r.1 r.0 y ⊎ KeptNow w c r.1 r.0 y) where
  pub step_by : Step w c r
  step_by = record {
    fine = record { ready = ready; fits = fits; room = rw (size, spare) F.room; joined = E.joined F.joined };
    size = size;
    found = λ y. rw hands (λ f. to y ((E.found y).0 f), λ q. (E.found y).1 (from y q));
    times = rw hands E.times;
    stamps = rw hands E.stamps;
    single = rw hands E.single;
    number = number;
  }
    where
      to : (y : ℕ) → In y made ⊎ (FoundIn w y × Off y gone) → In y made ⊎ (FoundIn w y × (TakenBy w c r.1 y → ⊥))
      to y (inl i) = inl i
      to y (inr q) = inr (q.0, λ t. off-not_in y gone q.1 ((takes y q.0).1 t))

      from : (y : ℕ) → In y made ⊎ (FoundIn w y × (TakenBy w c r.1 y → ⊥)) → In y made ⊎ (FoundIn w y × Off y gone)
      from y (inl i) = inl i
      from y (inr q) = inr (q.0, not_in_off y gone (λ i. q.1 ((takes y q.0).0 i)))

-- ---- reading

pub scratch-length : (m : List ℕ) (h : Header) (s : List ℕ) → length (scratch_after m h s) ≡ length s
scratch-length m h s = by (ℕ_discrete (fit_no (length m) h.used (length s)) DONE)
  where
    by : Dec (fit_no (length m) h.used (length s) ≡ DONE) → length (scratch_after m h s) ≡ length s
    by (yes e) =
        let f = (fit-done (length m) h.used (length s)).0 e in
        ap length (scratch-fits m h s f) ∙ zeroed-length (2 * h.used) s f.room
    by (no n) = ap length (scratch-unfit m h s n)

-- whichever of two is answered, the scratch is the same
either-scratch : (b : Bool) (m : List ℕ) (h : Header) (s x y : List ℕ) (p q : Reply)
    → length (cond {A = List ℕ × List ℕ × Reply} b (scratch_after m h s, x, p) (scratch_after m h s, y, q)).0 ≡ length s
either-scratch true m h s x y p q = scratch-length m h s
either-scratch false m h s x y p q = scratch-length m h s

compared-length : (m m' s : List ℕ) (h h' : Header) (x y : ℕ) → length (subtrees_compared m h x m' h' y s).0 ≡ length s
unfolding subtrees_compared guarded_read
compared-length m m' s h h' x y = by (eqb (guard_no m h (length s)) DONE)
  where
    by : (b : Bool) → length (cond b (guarded_read m' h' (scratch_after m h s) (compared m h.used x m' h'.used y)) (scratch_after m h s, reply (guard_no m h (length s)) 0)).0 ≡ length s
    by true = scratch-length m' h' (scratch_after m h s) ∙ scratch-length m h s
    by false = scratch-length m h s

read_length : (c : Reading) (m : List ℕ) (h : Header) (s : List ℕ) → length (read_by c m h s).0 ≡ length s
unfolding validated census_call live_call guarded_read guarded_list saved guarded_write
read_length (single k x) m h s = refl
read_length validate m h s = scratch-length m h s
read_length census m h s = scratch-length m h s
read_length counts_live m h s = scratch-length m h s
read_length (counts_descendants x) m h s = scratch-length m h s
read_length (list o x places) m h s = either-scratch (eqb (guard_no m h (length s)) DONE) m h s _ _ _ _
read_length (levels x places) m h s = either-scratch (eqb (guard_no m h (length s)) DONE) m h s _ _ _ _
read_length (compare x y) m h s = compared-length m m s h h x y
read_length (compare_with x m' h' y) m h s = compared-length m m' s h h' x y
read_length (compare_from m' h' x y) m h s = compared-length m' m s h' h x y
read_length (start x) m h s = refl
read_length (walk from k places) m h s = refl
read_length (save bytes) m h s = either-scratch (eqb (guard_no m h (length s)) DONE) m h s _ _ _ _

pub read_step : (w : Memory) → Fine w → (c : Reading) → Step w (read c) (called (read c) w)
read_step w F c =
    step_by w F (read c) (called (read c) w) [] [] (effect-still w.words w.words w.header (record { stamps = λ s p. refl; nexts = λ s p q. refl }))
    F.ready F.fits refl (read_length c w.words w.header w.scratch) refl (λ y f. (λ i. absurd i, λ t. absurd t))
    (λ y f. inr (record { was = f; same = refl; none = λ n t. t }))

-- ---- set

set_told : (m : List ℕ) (h : Header) (x n : ℕ) → named_no m h x ≡ DONE → set_number m h x n ≡ (set_link m x NUMBER n, reply DONE 0)
unfolding set_number
set_told m h x n d = simp (eq-eqb (named_no m h x) DONE d)

set-told-refused : (m : List ℕ) (h : Header) (x n : ℕ) → named_no m h x ≢ DONE → (set_number m h x n).1.number ≡ named_no m h x
unfolding set_number
set-told-refused m h x n k = simp (ne_eqb (named_no m h x) DONE k)

module _ (w : Memory) (F : Fine w) (x n : ℕ) where
  abbrev m : List ℕ
  m = w.words

  abbrev h : Header
  h = w.header

  abbrev m' : List ℕ
  m' = (set_number m h x n).0

  abbrev t : Told
  t = replies (set_number m h x n).1

  stamps-stay : (s : ℕ) → 1 ≤ s → word m' s STAMP ≡ word m s STAMP
  stamps-stay s p = set_other m h x n s STAMP p (omega arith) (λ _ (e : STAMP ≡ NUMBER). omega arith)

  -- done or refused
  module _ (ready : Ready m' h) (nexts : (s : ℕ) → 1 ≤ s → 32768 ≤ stamp_of (word m s STAMP) → word m' s NUMBER ≡ word m s NUMBER)
      (number : (y : ℕ) → FoundIn (memory m' h w.scratch) y → FoundIn w y
      → StoredNow w (set x n) t (memory m' h w.scratch) y ⊎ KeptNow w (set x n) t (memory m' h w.scratch) y) where
    still : Still m m'
    still = record { stamps = stamps-stay; nexts = nexts }

    set_by : Step w (set x n) (called (set x n) w)
    set_by =
        step_by w F (set x n) (called (set x n) w) [] [] (effect-still m m' h still) ready (rw (set-length m h x n) F.fits) (set-length m h x n) refl refl
        (λ y f. (λ i. absurd i, λ q. absurd q)) (λ y f. number y f ((still-found still h.used y).0 f))

  pub set-step : Step w (set x n) (called (set x n) w)
  set-step = by (ℕ_discrete (named_no m h x) DONE)
    where
      ready : Ready m' h
      ready = (set-ready m h x n).0 F.ready

      by : Dec (named_no m h x ≡ DONE) → Step w (set x n) (called (set x n) w)
      by (yes d) = set_by ready nexts (λ y f g. number y g (ℕ_discrete y x))
        where
          fx : FoundIn w x
          fx = found_is m h.used x (named_is m h x d).1

          nexts : (s : ℕ) → 1 ≤ s → 32768 ≤ stamp_of (word m s STAMP) → word m' s NUMBER ≡ word m s NUMBER
          nexts s p q = set_other m h x n s NUMBER p (omega arith) (λ e _. removed e)
            where
              removed : s ≢ slot_of x
              removed e =
                  let a : stamp_of (word m s STAMP) ≡ stamp_of x = ap (λ (z : ℕ). stamp_of (word m z STAMP)) e ∙ fx.stamp in
                  let b = fx.small in omega arith

          told : (set_number m h x n).1.number ≡ DONE
          told = ap (λ (r : List ℕ × Reply). r.1.number) (set_told m h x n d)

          number : (y : ℕ) → FoundIn w y → Dec (y ≡ x)
              → StoredNow w (set x n) t (memory m' h w.scratch) y ⊎ KeptNow w (set x n) t (memory m' h w.scratch) y
          number y g (yes e) =
              let q : word m' (slot_of y) NUMBER ≡ n = ap (λ (z : ℕ). word m' (slot_of z) NUMBER) e ∙ set-number m h x n d in
              inl (record { is = (told, sym e, sym q); only = λ k s. q ∙ s.2 })
          number y g (no k) = inr (record {
            was = g;
            same = set_other m h x n (slot_of y) NUMBER g.from (omega arith) (λ e _. k (found_one m h.used y x g fx e));
            none = λ j s. k (sym s.1);
          })
      by (no k) =
          set_by ready (λ s p q. ap (λ (z : List ℕ). word z s NUMBER) same)
          (λ y f g. inr (record {
            was = g;
            same = ap (λ (z : List ℕ). word z (slot_of y) NUMBER) same;
            none = λ j s. k (sym (set-told-refused m h x n k) ∙ s.0);
          }))
        where
          same : m' ≡ m
          same = set-refused m h x n k
