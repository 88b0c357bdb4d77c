-- The contract of `arena::node::write_node`.
use Rattle.std.proofs.Common.{◌≡◌, ◌∙◌, sym, ap, refl, arith, ℕ, ◌+◌, ◌-◌, ◌*◌, ◌≤◌, length, List, [], ◌∷◌, take, drop}
use Rattle.std.proofs.lemmas.List.{length-take, length-drop, length-set}
use Rattle.std.proofs.lemmas.Slice.{put_mid-paste}
use Rattle.std.proofs.lemmas.List.Edits.{sets, sets-eq}
use Rattle.std.proofs.Math.ListN.{set}
use lib.ListN.{replicate}
use native.Mathlib.Numerals.{unary_clauses}
use borrow.Rule.Slice.PartMut.{put_mid}
use Rattle.link.specs.Words.{set_word}
use Rattle.arena.specs.Nodes.{slot_at}
use Rattle.arena.proofs.node.write_node.Goals as goal

-- Seven words written one after another lie at seven places in a row.
one-by-one : (m : List ℕ) (i a b : ℕ) → sets m i (a ∷ b ∷ 0 ∷ 0 ∷ 0 ∷ 0 ∷ 0 ∷ [])
    ≡ set (set (set (set (set (set (set m (i + 0) a) (i + 1) b) (i + 2) 0) (i + 3) 0) (i + 4) 0) (i + 5) 0) (i + 6) 0
one-by-one m i a b = simp unary_clauses refl

slot-written : (m ys : List ℕ) (s k a b : ℕ) → (s - 1) * 7 + 7 ≤ length m → k ≡ 7 → ys ≡ a ∷ b ∷ 0 ∷ 0 ∷ 0 ∷ 0 ∷ 0 ∷ []
    → put_mid ((s - 1) * 7) k m ys ≡ slot_at m s a b
unfolding slot_at set_word
slot-written m ys s k a b h n e =
    let vs = a ∷ b ∷ 0 ∷ 0 ∷ 0 ∷ 0 ∷ 0 ∷ [] in
    put_mid-paste ((s - 1) * 7) k m ys vs 7 e (sym n) refl ∙ sym (sets-eq vs m ((s - 1) * 7) h) ∙ one-by-one m ((s - 1) * 7) a b

-- Of seven words, the first two set and the others made 0.
filled : (xs ys : List ℕ) (n a b : ℕ) → length xs ≡ 7 → n ≡ 5 → ys ≡ replicate 5 0
    → put_mid 2 n (set (set xs 0 a) 1 b) ys ≡ a ∷ b ∷ 0 ∷ 0 ∷ 0 ∷ 0 ∷ 0 ∷ []
filled [] ys n a b h e f = absurd (omega arith)
filled (x ∷ []) ys n a b h e f = absurd (omega arith)
filled (x ∷ y ∷ []) ys n a b h e f = absurd (omega arith)
filled (x ∷ y ∷ z ∷ []) ys n a b h e f = absurd (omega arith)
filled (x ∷ y ∷ z ∷ u ∷ []) ys n a b h e f = absurd (omega arith)
filled (x ∷ y ∷ z ∷ u ∷ v ∷ []) ys n a b h e f = absurd (omega arith)
filled (x ∷ y ∷ z ∷ u ∷ v ∷ w ∷ []) ys n a b h e f = absurd (omega arith)
filled (x ∷ y ∷ z ∷ u ∷ v ∷ w ∷ t ∷ []) ys n a b h e f = rw (e, f) refl
filled (x ∷ y ∷ z ∷ u ∷ v ∷ w ∷ t ∷ r ∷ rest) ys n a b h e f = absurd (omega arith)

zeros : (ys : List ℕ) (k : ℕ) → ys ≡ replicate k 0 → k ≡ 5 → ys ≡ replicate 5 0
zeros ys k e f = e ∙ ap (λ (n : ℕ). replicate n 0) f

pub returns : goal.returns
returns c =
    let s = c.args.slot in
    let xs : List ℕ = take ((s - 1) * 7 + 7 - (s - 1) * 7) (drop ((s - 1) * 7) c.args.words.now) in
    let ys : List ℕ = set (set xs 0 c.args.stamp) 1 c.args.number in
    let l : length xs ≡ 7 = simp (length-take, length-drop) (omega arith) in
    let size : length ys ≡ 7 = simp length-set l in
    let rest : c.fill.new.self ≡ replicate 5 0 =
    zeros c.fill.new.self _ (c.fill.ensures.after (λ y q. q)) (simp (length-take, length-drop, length-set) (omega arith)) in
    slot-written _ _ s _ c.args.stamp c.args.number (omega arith) (omega arith)
    (filled xs c.fill.new.self (length ys - 2) c.args.stamp c.args.number l (omega arith) rest)
