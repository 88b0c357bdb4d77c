-- The passes over links on the scratch list answer as the model without a list: a place holds what leads to its slot, and its mark once
-- it was passed, so the climbs are the scan over marks as a function, whatever the scratch held. From the laws of one slot.
use Rattle.std.specs.Prelude.{◌≡◌, ◌≢◌, ◌&&◌, eqb, ltb, set}
use Rattle.std.proofs.Math.Path.{refl, sym, ap}
use Rattle.std.proofs.Common.{◌∙◌, true≢false, length-set, get_or-set_same, get_or-set_other}
use Rattle.std.proofs.Math.Logic.{ite}
use Rattle.std.proofs.Math.Bool.{Bool, true, false, cond, not}
use Rattle.std.proofs.lemmas.Bool.{false≢true}
use mathlib.Core.List.{List}
use Prim.Native.Nat.{ℕ, zero, suc, ◌+◌, ◌*◌, ◌<◌, ◌≤◌}
use Rattle.std.proofs.Math.Decide.{ℕ_discrete}
use Rattle.std.proofs.Math.Nat.{lt_irrefl}
use native.Mathlib.Omega.{arith}
use Rattle.std.proofs.Math.ListN.{length, get_or}
use Rattle.std.proofs.lemmas.Bool.Decides.{nat_tests}
use borrow.Author.Tests.{eq-eqb, ne_eqb, lt-ltb, le-ltb}
use Rattle.follow.specs.Point.{at, at_same, at_other}
use Rattle.follow.specs.Marks.{climb, scan}
use Rattle.examine.specs.Slots.{look, look_run}
use Rattle.examine.specs.SlotLaws.{look-within}
use Rattle.examine.specs.Marks.{climb_run, climbs_run}
use Rattle.examine.specs.MarkLaws.{climb-within, climbs-within}
use Rattle.examine.specs.ScratchLaws.{Within, within_none, within-set, within_both}
use Rattle.examine.specs.Examination.{links_run, passes, all_pass, leading, links_ok}
use Rattle.examine.specs.LeadingLaws.{all_pass_lem, look-most, look-bad, leading-most, leading-look}

-- ---- the second pass, along any function that stays within used

module _ (f : ℕ → ℕ) (used : ℕ) (inside : (y : ℕ) → f y ≤ used) (small : used ≤ 65535) where
  -- The list has f where there is no mark, and the mark above all slot numbers; at none it has 65,536.
  record Shows (M : ℕ → ℕ) (scratch : List ℕ) : Type 0 where
    none : get_or scratch 0 0 ≡ 65536
    unmarked : (y : ℕ) → 1 ≤ y → y ≤ used → M y ≡ 0 → get_or scratch y 0 ≡ f y
    marked : (y : ℕ) → 1 ≤ y → y ≤ used → M y ≢ 0 → get_or scratch y 0 ≡ 65536 + M y

  shows_at : (M : ℕ → ℕ) (scratch : List ℕ) (i x : ℕ) → 1 ≤ i → 1 ≤ x → x ≤ used → 2 * used ≤ length scratch
      → Shows M scratch → Shows (at M x i) (set scratch x (65536 + i))
  shows_at M scratch i x hi hx b room S = record {
    none = get_or-set_other scratch x 0 (65536 + i) 0 (λ (e : 0 ≡ x). lt_irrefl 0 (omega arith)) ∙ S.none;
    unmarked = λ y a c e. one y a c e (ℕ_discrete y x);
    marked = λ y a c n. two y a c n (ℕ_discrete y x);
  }
    where
      here : (y : ℕ) → y ≡ x → at M x i y ≡ i
      here y q = ap (at M x i) q ∙ at_same M x i

      one : (y : ℕ) → 1 ≤ y → y ≤ used → at M x i y ≡ 0 → Dec (y ≡ x) → get_or (set scratch x (65536 + i)) y 0 ≡ f y
      one y a c e (yes q) = let z : i ≡ 0 = sym (here y q) ∙ e in absurd (lt_irrefl 0 (omega arith))
      one y a c e (no n) = get_or-set_other scratch x y (65536 + i) 0 n ∙ S.unmarked y a c (sym (at_other M x i y n) ∙ e)

      two : (y : ℕ) → 1 ≤ y → y ≤ used → at M x i y ≢ 0 → Dec (y ≡ x) → get_or (set scratch x (65536 + i)) y 0 ≡ 65536 + at M x i y
      two y a c h (yes q) = rw (here y q) (rw q (get_or-set_same scratch x (65536 + i) 0 (omega arith)))
      two y a c h (no n) = rw (at_other M x i y n) (get_or-set_other scratch x y (65536 + i) 0 n ∙ S.marked y a c (λ e. h (at_other M x i y n ∙ e)))

  -- The two climbs answer alike and leave marks alike.
  Alike : Bool × (ℕ → ℕ) → List ℕ × Bool → Type 0
  Alike r l = (r.0 ≡ l.1) × Shows r.1 l.0

  climb-alike : (c : ℕ) (M : ℕ → ℕ) (scratch : List ℕ) (i x : ℕ) → 1 ≤ i → x ≤ used → 2 * used ≤ length scratch
      → Shows M scratch → Alike (climb f c M i x) (climb_run c used i x scratch)
  unfolding climb climb_run Alike
  climb-alike zero M scratch i x hi b room S = (refl, S)
  climb-alike (suc c) M scratch i x hi b room S =
      by (λ hx. climb-alike c (at M x i) (set scratch x (65536 + i)) i (f x) hi (inside x) (rw (length-set scratch x (65536 + i)) room) (shows_at M scratch i x hi hx b room S))
      (ℕ_discrete x 0) (ℕ_discrete (M x) 0) (ℕ_discrete (M x) i)
    where
      by : (1 ≤ x → Alike (climb f c (at M x i) i (f x)) (climb_run c used i (f x) (set scratch x (65536 + i)))) → (d : Dec (x ≡ 0)) (d' : Dec (M x ≡ 0)) (d'' : Dec (M x ≡ i))
          → Alike (ite d (true, M) (ite d' (climb f c (at M x i) i (f x)) (ite d'' (false, M) (true, M))))
          (cond (ltb used (get_or scratch x 0)) (scratch, not (eqb (get_or scratch x 0) (65536 + i)))
          (climb_run c used i (get_or scratch x 0) (set scratch x (65536 + i))))
      by ih (yes e) d' d'' =
          let w : get_or scratch x 0 ≡ 65536 = ap (λ (y : ℕ). get_or scratch y 0) e ∙ S.none in
          simp (lt-ltb used (get_or scratch x 0) (omega arith), ne_eqb (get_or scratch x 0) (65536 + i) (λ (q : get_or scratch x 0 ≡ 65536 + i). lt_irrefl 0 (omega arith))) (refl, S)
      by ih (no n) (yes q) d'' = simp (S.unmarked x (omega arith) b q, le-ltb used (f x) (inside x)) (ih (omega arith))
      by ih (no n) (no k) (yes q) =
          let w = S.marked x (omega arith) b k in
          simp (lt-ltb used (get_or scratch x 0) (omega arith), eq-eqb (get_or scratch x 0) (65536 + i) (omega arith)) (refl, S)
      by ih (no n) (no k) (no h) =
          let w = S.marked x (omega arith) b k in
          simp (lt-ltb used (get_or scratch x 0) (omega arith), ne_eqb (get_or scratch x 0) (65536 + i) (λ (e : get_or scratch x 0 ≡ 65536 + i). h (omega arith))) (refl, S)

  climbs-alike : (c : ℕ) (M : ℕ → ℕ) (scratch : List ℕ) (i : ℕ) → 1 ≤ i → i + c ≤ used + 1 → 2 * used ≤ length scratch
      → Shows M scratch → (climbs_run c used i scratch).1 ≡ scan f used c i M
  unfolding scan climbs_run Alike
  climbs-alike zero M scratch i hi b room S = refl
  climbs-alike (suc c) M scratch i hi b room S =
      let w = climb-within (used + 2) used i i scratch (omega arith) (omega arith) in
      let two : used + 2 ≡ suc (suc used) = omega arith in
      let one : i + 1 ≡ suc i = omega arith in
      let a : Alike (climb f (suc (suc used)) M i i) (climb_run (used + 2) used i i scratch) = rw two (climb-alike (suc (suc used)) M scratch i i hi (omega arith) room S) in
      by (climb f (suc (suc used)) M i i).0 (climb_run (used + 2) used i i scratch).1 a.0
      (rw one (climbs-alike c (climb f (suc (suc used)) M i i).1 (climb_run (used + 2) used i i scratch).0 (suc i) (omega arith) (omega arith) (omega arith) a.1))
    where
      M' : ℕ → ℕ
      M' = (climb f (suc (suc used)) M i i).1

      L : List ℕ
      L = (climb_run (used + 2) used i i scratch).0

      by : (a b : Bool) → a ≡ b → (climbs_run c used (i + 1) L).1 ≡ scan f used c (suc i) M'
          → ◌≡◌ {A = Bool} (cond b (climbs_run c used (i + 1) L) (L, b)).1 (elim a [ true ↦ scan f used c (suc i) M' | false ↦ false ])
      by true true e ih = ih
      by true false e ih = absurd (true≢false e)
      by false true e ih = absurd (false≢true e)
      by false false e ih = refl

-- ---- the first pass

module _ (m : List ℕ) (used : ℕ) (small : used ≤ 65535) where
  look-says : (n s : ℕ) (scratch : List ℕ) → (look_run n m used s scratch).1 ≡ all_pass n m used s
  unfolding look_run all_pass
  look-says zero s scratch = refl
  look-says (suc n) s scratch = rw (look-bad m used small s) (by (passes m used s) (look-says n (s + 1) (set scratch s (look m used s))))
    where
      by : (t : Bool) → (look_run n m used (s + 1) (set scratch s (look m used s))).1 ≡ all_pass n m used (s + 1)
          → (cond (not t) (scratch, false) (look_run n m used (s + 1) (set scratch s (look m used s)))).1 ≡ cond t (all_pass n m used (s + 1)) false
      by true ih = ih
      by false ih = refl

  -- Each place looked at holds what leads to its slot; those before are as they were.
  look-holds : (n s : ℕ) (scratch : List ℕ) → 1 ≤ s → s + n ≤ used + 1 → 2 * used ≤ length scratch → all_pass n m used s ≡ true → (y : ℕ)
      → (s ≤ y → y < s + n → get_or (look_run n m used s scratch).0 y 0 ≡ look m used y) × (y < s → get_or (look_run n m used s scratch).0 y 0 ≡ get_or scratch y 0)
  unfolding look_run all_pass
  look-holds zero s scratch a b room e y = (λ c d. absurd (lt_irrefl y (omega arith)), λ _. refl)
  look-holds (suc n) s scratch a b room e y =
      rw (look-bad m used small s)
      (by (passes m used s) e
      (λ q. look-holds n (s + 1) (set scratch s (look m used s)) (omega arith) (omega arith) (rw (length-set scratch s (look m used s)) room) q y)
      (ℕ_discrete y s))
    where
      R : List ℕ × Bool
      R = look_run n m used (s + 1) (set scratch s (look m used s))

      by : (t : Bool) → cond t (all_pass n m used (s + 1)) false ≡ true
          → (all_pass n m used (s + 1) ≡ true
          → (s + 1 ≤ y → y < s + 1 + n → get_or R.0 y 0 ≡ look m used y) × (y < s + 1 → get_or R.0 y 0 ≡ get_or (set scratch s (look m used s)) y 0))
          → Dec (y ≡ s)
          → (s ≤ y → y < s + suc n → get_or (cond (not t) (scratch, false) R).0 y 0 ≡ look m used y) × (y < s → get_or (cond (not t) (scratch, false) R).0 y 0 ≡ get_or scratch y 0)
      by false q ih d = absurd (false≢true q)
      by true q ih (yes r) = (
        λ _ _. (ih q).1 (omega arith) ∙ rw r (get_or-set_same scratch s (look m used s) 0 (omega arith)),
        λ c. absurd (lt_irrefl y (omega arith)),
      )
      by true q ih (no r) = (
        λ c d. (ih q).0 (omega arith) (omega arith),
        λ c. (ih q).1 (omega arith) ∙ get_or-set_other scratch s y (look m used s) 0 r,
      )

-- ---- both

none-used : (m : List ℕ) → (all_pass 0 m 0 1 && scan (leading m 0) 0 0 1 (λ _. 0)) ≡ true
unfolding all_pass scan
none-used m = refl

module _ (m : List ℕ) (used : ℕ) (scratch : List ℕ) where
  -- The first pass over the scratch with none marked.
  abbrev looked : List ℕ × Bool
  looked = look_run used m used 1 (set scratch 0 65536)

  pub links_is : used ≤ 65535 → 2 * used ≤ length scratch → (links_run m used scratch).1 ≡ links_ok m used
  unfolding links_run links_ok
  links_is small room = go (ℕ_discrete used 0)
    where
      room' : 2 * used ≤ length (set scratch 0 65536)
      room' = rw (length-set scratch 0 65536) room

      shows : 1 ≤ used → all_pass used m used 1 ≡ true → Shows (leading m used) used (leading-most m used) small (λ _. 0) looked.0
      shows a e = record {
        none =
            (look-holds m used small used 1 (set scratch 0 65536) (omega arith) (omega arith) room' e 0).1 (omega arith)
            ∙ get_or-set_same scratch 0 65536 0 (omega arith);
        unmarked = λ y a b _.
            (look-holds m used small used 1 (set scratch 0 65536) (omega arith) (omega arith) room' e y).0 a (omega arith)
            ∙ sym (leading-look m used y (look-most m used y ((all_pass_lem m used used 1).0 e y a (omega arith))));
        marked = λ y a b n. absurd (n refl);
      }

      by : 1 ≤ used → (t : Bool) → all_pass used m used 1 ≡ t
          → (cond looked.1 (climbs_run used used 1 looked.0) looked).1 ≡ (all_pass used m used 1 && scan (leading m used) used used 1 (λ _. 0))
      by a true e =
          let w = look-within used m used 1 (set scratch 0 65536) (omega arith) (omega arith) in
          simp (look-says m used small used 1 (set scratch 0 65536), e)
          (climbs-alike (leading m used) used (leading-most m used) small used (λ _. 0) looked.0 1 (omega arith) (omega arith) (rw w.same_length room') (shows a e))
      by a false e = simp (look-says m used small used 1 (set scratch 0 65536), e)

      go : Dec (used ≡ 0) → (cond (eqb used 0) (scratch, true) (cond looked.1 (climbs_run used used 1 looked.0) looked)).1 ≡ (all_pass used m used 1 && scan (leading m used) used used 1 (λ _. 0))
      go (yes z) = rw z (sym (none-used m))
      go (no n) = simp (ne_eqb used 0 n) (by (omega arith) (all_pass used m used 1) refl)

  pub links-within : Within used scratch (links_run m used scratch).0
  unfolding links_run
  links-within = go (ℕ_discrete used 0)
    where
      by : (t : Bool) → Within used (set scratch 0 65536) looked.0 → Within used looked.0 (climbs_run used used 1 looked.0).0
          → Within used (set scratch 0 65536) (cond t (climbs_run used used 1 looked.0) looked).0
      by true v w = within_both used v w
      by false v w = v

      go : Dec (used ≡ 0) → Within used scratch (cond (eqb used 0) (scratch, true) (cond looked.1 (climbs_run used used 1 looked.0) looked)).0
      go (yes z) = simp (eq-eqb used 0 z) (within_none used scratch)
      go (no n) =
          simp (ne_eqb used 0 n)
          (within-set used scratch 0 65536 (omega arith) (omega arith)
          (by looked.1 (look-within used m used 1 (set scratch 0 65536) (omega arith) (omega arith)) (climbs-within used used 1 looked.0 (omega arith) (omega arith))))

  -- What the passes hand back, put together: both, and the first alone where it finds a fault.
  pub links_climbed : {marked left climbed : List ℕ} {sound answer : Bool} → (used ≡ 0 → ⊥) → marked ≡ set scratch 0 65536
      → (left, sound) ≡ look_run used m used 1 marked → sound ≡ true → (climbed, answer) ≡ climbs_run used used 1 left
      → (climbed, answer) ≡ links_run m used scratch
  unfolding links_run
  links_climbed some d e t f =
      let q = e ∙ ap (λ (s : List ℕ). look_run used m used 1 s) d in
      let yes : looked.1 ≡ true = sym (ap (λ (p : List ℕ × Bool). p.1) q) ∙ t in
      simp (ne_eqb used 0 some, yes) (f ∙ ap (λ (p : List ℕ × Bool). climbs_run used used 1 p.0) q)

  pub links-stopped : {marked left : List ℕ} {sound : Bool} → (used ≡ 0 → ⊥) → marked ≡ set scratch 0 65536
      → (left, sound) ≡ look_run used m used 1 marked → sound ≡ false → (left, false) ≡ links_run m used scratch
  unfolding links_run
  links-stopped {left = left} some d e t =
      let q = e ∙ ap (λ (s : List ℕ). look_run used m used 1 s) d in
      let no : looked.1 ≡ false = sym (ap (λ (p : List ℕ × Bool). p.1) q) ∙ t in
      simp (ne_eqb used 0 some, no) (ap (λ (b : Bool). (left, b)) (sym t) ∙ q)

-- For the code, which runs the second pass where the first said yes.
pub ruleset link_passes = (nat_tests, links_climbed, links-stopped)
