-- The tables of works, and of kinds and details, say what the table of calls says. By computing the tables.
use Rattle.std.specs.Prelude.{◌≡◌, refl, Bool, true, false, cond, List, [], ◌∷◌, ℕ, zero, suc, ◌-◌, ◌≤◌, ◌<◌, ltb, length, get_or}
use Rattle.std.proofs.Common.{sym, ap, ◌∙◌, arith, ltb-true, ltb-false}
use Rattle.std.proofs.lemmas.Bool.{false≢true}
use Rattle.std.proofs.Math.ListN.{get_or-eq_default}
use Rattle.link.specs.Words.{width}
use Rattle.command.specs.Calls.{call_table, call_of}
use Rattle.command.specs.Kinds.{kind_table, detail_table, calls_by, call_by, call_as, work_table, WithinSlot}
use Rattle.command.specs.declared.code.Work.{Work}
use Rattle.command.specs.declared.code.Work.TheVariants as Do
use Rattle.command.specs.declared.call.Call.{Call}
use Rattle.command.specs.declared.call.Call.TheVariants.{Make, Read, Set, LiveCount, DescendantCount, Validate}

-- the calls of two tables, one beside the other
calls : List ℕ → List ℕ → List Call
calls [] ds = []
calls (k ∷ ks) [] = []
calls (k ∷ ks) (d ∷ ds) = call_by k d ∷ calls ks ds

calls_at : (ks ds : List ℕ) (i : ℕ) → i < length ks → length ks ≡ length ds → get_or (calls ks ds) i Validate ≡ call_by (get_or ks i 0) (get_or ds i 0)
unfolding calls
calls_at [] ds i h e = absurd (omega arith)
calls_at (k ∷ ks) [] i h e = absurd (omega arith)
calls_at (k ∷ ks) (d ∷ ds) zero h e = refl
calls_at (k ∷ ks) (d ∷ ds) (suc i) h e = calls_at ks ds i (omega arith) (omega arith)

tables : calls kind_table detail_table ≡ call_table
unfolding calls
tables = refl

pub kind-call : (code : ℕ) → 0 < code → code ≤ 24 → call_by (get_or kind_table (code - 1) 0) (get_or detail_table (code - 1) 0) ≡ call_of code
kind-call zero a b = absurd (omega arith)
kind-call (suc i) a b =
    let h : i < 24 = omega arith in
    let e : suc i - 1 ≡ i = omega arith in
    rw e (sym (calls_at kind_table detail_table i h refl) ∙ ap (λ (cs : List Call). get_or cs i Validate) tables)

-- a detail is a word of a slot
pub detail-word : (i : ℕ) → get_or detail_table i 0 < width
detail-word i = within detail_table i refl
  where
    below : List ℕ → Bool
    below [] = true
    below (x ∷ xs) = cond (ltb x width) (below xs) false

    within : (xs : List ℕ) (i : ℕ) → below xs ≡ true → get_or xs i 0 < width
    within [] i w = omega arith
    within (x ∷ xs) zero w = front (ltb x width) (below xs) refl w
      where
        front : (b c : Bool) → ltb x width ≡ b → cond b c false ≡ true → x < width
        front true c e w = ltb-true x width e
        front false c e w = absurd (false≢true w)
    within (x ∷ xs) (suc i) w = within xs i (rest (ltb x width) (below xs) w)
      where
        rest : (b c : Bool) → cond b c false ≡ true → c ≡ true
        rest true c w = w
        rest false c w = absurd (false≢true w)

-- past the last kind
pub kind-past : (kind detail : ℕ) → 12 ≤ kind → call_by kind detail ≡ Validate
kind-past kind detail h = get_or-eq_default (calls_by detail) Validate h

-- the works, each as the call that it stands for
works : List Work → List Call
works [] = []
works (w ∷ ws) = call_as w ∷ works ws

works_at : (ws : List Work) (i : ℕ) → i < length ws → get_or (works ws) i Validate ≡ call_as (get_or ws i (Do.Read 0))
unfolding works
works_at [] i h = absurd (omega arith)
works_at (w ∷ ws) zero h = refl
works_at (w ∷ ws) (suc i) h = works_at ws i (omega arith)

works_tables : works work_table ≡ calls kind_table detail_table
unfolding works calls
works_tables = refl

work_at : (i : ℕ) → i < 24 → call_as (get_or work_table i (Do.Read 0)) ≡ call_by (get_or kind_table i 0) (get_or detail_table i 0)
work_at i h = sym (works_at work_table i h) ∙ ap (λ (cs : List Call). get_or cs i Validate) works_tables ∙ calls_at kind_table detail_table i h refl

-- A work is its kind and its detail in one: so the laws of these two tables are of the works that the code has.
pub work-kind : (code : ℕ) → 0 < code → code ≤ 24
    → call_as (get_or work_table (code - 1) (Do.Read 0)) ≡ call_by (get_or kind_table (code - 1) 0) (get_or detail_table (code - 1) 0)
work-kind code a b = work_at (code - 1) (omega arith)

pub work-call : (code : ℕ) → 0 < code → code ≤ 24 → call_as (get_or work_table (code - 1) (Do.Read 0)) ≡ call_of code
work-call code a b = work-kind code a b ∙ kind-call code a b

-- the word that a call reads; 0 of the others
abbrev word_in : Call → ℕ
word_in (Read k) = k
word_in (Make change) = 0
word_in Set = 0
word_in LiveCount = 0
word_in DescendantCount = 0
word_in Validate = 0

word-by : (kind detail : ℕ) → detail < width → word_in (call_by kind detail) < width
word-by zero d h = h
word-by (suc zero) d h = omega arith
word-by (suc (suc zero)) d h = omega arith
word-by (suc (suc (suc zero))) d h = omega arith
word-by (suc (suc (suc (suc zero)))) d h = omega arith
word-by (suc (suc (suc (suc (suc zero))))) d h = omega arith
word-by (suc (suc (suc (suc (suc (suc zero)))))) d h = omega arith
word-by (suc (suc (suc (suc (suc (suc (suc zero))))))) d h = omega arith
word-by (suc (suc (suc (suc (suc (suc (suc (suc zero)))))))) d h = omega arith
word-by (suc (suc (suc (suc (suc (suc (suc (suc (suc zero))))))))) d h = omega arith
word-by (suc (suc (suc (suc (suc (suc (suc (suc (suc (suc zero)))))))))) d h = omega arith
word-by (suc (suc (suc (suc (suc (suc (suc (suc (suc (suc (suc zero))))))))))) d h = omega arith
word-by (suc (suc (suc (suc (suc (suc (suc (suc (suc (suc (suc (suc k)))))))))))) d h =
    let past = ap word_in (kind-past (suc (suc (suc (suc (suc (suc (suc (suc (suc (suc (suc (suc k)))))))))))) d (omega arith)) in omega (arith, past)

by-word : (w : Work) → word_in (call_as w) < width → WithinSlot w
by-word (Do.Read k) h = h
by-word Do.Set h = tt
by-word Do.New h = tt
by-word (Do.Move place) h = tt
by-word (Do.Value place) h = tt
by-word Do.Detach h = tt
by-word Do.DetachChildren h = tt
by-word Do.Remove h = tt
by-word Do.RemoveSubtree h = tt
by-word Do.RemoveChildren h = tt
by-word Do.LiveCount h = tt
by-word Do.DescendantCount h = tt
by-word Do.Validate h = tt

-- and a read among the works is of a word of a slot
pub work-within : (i : ℕ) → WithinSlot (get_or work_table i (Do.Read 0))
work-within i = within (ltb i 24) refl
  where
    within : (b : Bool) → ltb i 24 ≡ b → WithinSlot (get_or work_table i (Do.Read 0))
    within true e =
        let same = ap word_in (work_at i (ltb-true i 24 e)) in
        let word = word-by (get_or kind_table i 0) (get_or detail_table i 0) (detail-word i) in
        by-word (get_or work_table i (Do.Read 0)) (omega (arith, same, word))
    within false e =
        let past : get_or work_table i (Do.Read 0) ≡ Do.Read 0 = get_or-eq_default work_table (Do.Read 0) (ltb-false i 24 e) in
        rw past (omega arith)
