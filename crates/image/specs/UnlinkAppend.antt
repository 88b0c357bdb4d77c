-- Unlinking reads and writes the slots in use alone: what lies behind them in the memory lent stays, and makes no difference.
-- From one step of it.
use Rattle.std.specs.Prelude.{◌≡◌, Bool, true, false, cond, eqb, ltb, length}
use Rattle.std.proofs.Math.Path.{refl}
use Rattle.std.proofs.Common.{ap, ◌∙◌, arith, ltb-false}
use mathlib.Core.List.{List, ◌++◌}
use Prim.Native.Nat.{ℕ, zero, suc, ◌*◌, ◌≤◌}
use Rattle.std.proofs.lemmas.Bool.{eqb-false}
use Rattle.link.specs.Ids.{stamp_of}
use Rattle.link.specs.Words.{width, STAMP, NUMBER, word, set_word}
use Rattle.link.specs.WordLaws.{length-set_word}
use Rattle.link.specs.declared.header.Header.{Header}
use Rattle.rules.specs.Answers.{header}
use Rattle.image.specs.ImageLaws.{word-append, set_word-append}
use Rattle.image.specs.Unlink.{bypassed, unlink_run}
use Rattle.image.specs.UnlinkLaws.{length-bypassed}

module _ (rest : List ℕ) (used : ℕ) where
  abbrev behind : List ℕ × Header → List ℕ × Header
  behind r = (r.0 ++ rest, r.1)

  bypassed-append : (xs : List ℕ) (first before x next : ℕ) → used * width ≤ length xs → before ≤ used → 1 ≤ x → x ≤ used
      → bypassed (xs ++ rest) first before x next ≡ ((bypassed xs first before x next).0 ++ rest, (bypassed xs first before x next).1)
  unfolding bypassed
  bypassed-append xs first before x next size b one upto = by (eqb before 0) refl
    where
      after : List ℕ
      after = set_word xs before NUMBER next

      by : (t : Bool) → eqb before 0 ≡ t
          → cond {A = List ℕ × ℕ} t (set_word (xs ++ rest) x NUMBER 0, next) (set_word (set_word (xs ++ rest) before NUMBER next) x NUMBER 0, first)
          ≡ ((cond {A = List ℕ × ℕ} t (set_word xs x NUMBER 0, next) (set_word after x NUMBER 0, first)).0 ++ rest, (cond {A = List ℕ × ℕ} t (set_word xs x NUMBER 0, next) (set_word after x NUMBER 0, first)).1)
      by true e = ap (λ (w : List ℕ). (w, next)) (set_word-append xs rest used size x NUMBER one upto (omega arith) 0)
      by false e =
          let z = eqb-false before 0 e in
          let size' : used * width ≤ length after = rw (length-set_word xs before NUMBER next) size in
          ap (λ (w : List ℕ). (set_word w x NUMBER 0, first)) (set_word-append xs rest used size before NUMBER (omega arith) b (omega arith) next)
          ∙ ap (λ (w : List ℕ). (w, first)) (set_word-append after rest used size' x NUMBER one upto (omega arith) 0)

  pub unlink-append : (n : ℕ) (xs : List ℕ) (first before x : ℕ) → used * width ≤ length xs → before ≤ used
      → unlink_run n (xs ++ rest) used first before x ≡ ((unlink_run n xs used first before x).0 ++ rest, (unlink_run n xs used first before x).1)
  unfolding unlink_run
  unlink-append zero xs first before x size b = refl
  unlink-append (suc n) xs first before x size b =
      by (eqb x 0) (ltb used x) refl refl
      (unlink-append n B.0 B.1 before next (rw (length-bypassed xs first before x next) size) b)
      (λ u. unlink-append n xs first x next size u)
    where
      next : ℕ
      next = word xs x NUMBER

      B : List ℕ × ℕ
      B = bypassed xs first before x next

      spent : Bool
      spent = eqb (stamp_of (word xs x STAMP)) 32768

      off : List ℕ × Header
      off = unlink_run n B.0 used B.1 before next

      on : List ℕ × Header
      on = unlink_run n xs used first x next

      one : (t : Bool) → unlink_run n (B.0 ++ rest) used B.1 before next ≡ behind off → unlink_run n (xs ++ rest) used first x next ≡ behind on
          → cond t (unlink_run n (B.0 ++ rest) used B.1 before next) (unlink_run n (xs ++ rest) used first x next) ≡ behind (cond t off on)
      one true p q = p
      one false p q = q

      by : (a u : Bool) → eqb x 0 ≡ a → ltb used x ≡ u → unlink_run n (B.0 ++ rest) used B.1 before next ≡ behind off
          → (x ≤ used → unlink_run n (xs ++ rest) used first x next ≡ behind on)
          → cond a (xs ++ rest, header used first before)
          (cond u (xs ++ rest, header used first before)
          (cond (eqb (stamp_of (word (xs ++ rest) x STAMP)) 32768)
          (let b = bypassed (xs ++ rest) first before x (word (xs ++ rest) x NUMBER) in unlink_run n b.0 used b.1 before (word (xs ++ rest) x NUMBER))
          (unlink_run n (xs ++ rest) used first x (word (xs ++ rest) x NUMBER))))
          ≡ behind (cond a (xs, header used first before) (cond u (xs, header used first before) (cond spent off on)))
      by true u p q f g = refl
      by false true p q f g = refl
      by false false p q f g =
          let z = eqb-false x 0 p in
          let l = ltb-false used x q in
          rw (
            word-append xs rest used size x STAMP (omega arith) l (omega arith),
            word-append xs rest used size x NUMBER (omega arith) l (omega arith),
            bypassed-append xs first before x next size b (omega arith) l,
          ) (one spent f (g l))
