-- Each piece of surgery touches links only, and only of the slots that its identifiers name. One law for a write, over the
-- link; one for doing one thing after another; the rest puts these together.
use Rattle.std.specs.Prelude.{◌≡◌, refl, Bool, true, false, cond, List, [], ◌∷◌, ◌++◌, ℕ, zero, suc, ◌≤◌, eqb, Result, Ok, Err}
use Rattle.std.proofs.Common.{ap, ◌∙◌, subst, arith}
use Rattle.link.specs.Words.{PARENT, PREVIOUS, NEXT, FIRST, LAST, link, set_link}
use Rattle.link.specs.WordLaws.{length-set_link, set_link-other, set_link-slot, link-other}
use Rattle.link.specs.Relations.{connect_neighbors}
use Rattle.link.specs.Siblings.{detach_range, rewrite_parents, joined, transplanted, insert_with_neighbors, insert_last, insert_first}
use Rattle.link.specs.Only.{Other, Only, along}
use Rattle.link.specs.declared.siblings_range.ConsistencyError.{ConsistencyError}
use Rattle.link.specs.declared.siblings_range.ConsistencyError.TheVariants.{SiblingsLoop, ParentChildLoop}

other-left : (t : ℕ) (xs ys : List ℕ) → Other t (xs ++ ys) → Other t xs
other-left t [] ys h = tt
other-left t (a ∷ xs) ys h = (h.0, other-left t xs ys h.1)

other-right : (t : ℕ) (xs ys : List ℕ) → Other t (xs ++ ys) → Other t ys
other-right t [] ys h = h
other-right t (a ∷ xs) ys h = other-right t xs ys h.1

-- Nothing done.
pub only_none : (ids m : List ℕ) → Only ids m m
only_none ids m = record { size = refl; stays = λ t j a b. refl; others = λ t j p a o. refl }

-- One write, over the link.
pub only-link : (m : List ℕ) (id k v : ℕ) → PARENT ≤ k → k ≤ LAST → Only (id ∷ []) m (set_link m id k v)
only-link m id k v a b = record {
  size = length-set_link m id k v;
  stays = λ t j c n. set_link-other m id k v t j (omega arith) c (λ (e : j ≡ k). n (omega arith) (omega arith));
  others = λ t j p c o. set_link-slot m id k v t j (omega arith) c p o.0;
}

-- One thing after another.
pub only_then : {xs ys m m' m'' : List ℕ} → Only xs m m' → Only ys m' m'' → Only (xs ++ ys) m m''
only_then {xs} {ys} p q = record {
  size = q.size ∙ p.size;
  stays = λ t j c n. q.stays t j c n ∙ p.stays t j c n;
  others = λ t j h c o. q.others t j h c (other-right t xs ys o) ∙ p.others t j h c (other-left t xs ys o);
}

-- The same slots by a shorter list.
pub only-named : {xs ys m m' : List ℕ} → ((t : ℕ) → Other t ys → Other t xs) → Only xs m m' → Only ys m m'
only-named f p = record {
  size = p.size;
  stays = p.stays;
  others = λ t j h c o. p.others t j h c (f t o);
}

pub only-connect : (m : List ℕ) (parent previous next : ℕ)
    → Only (parent ∷ previous ∷ next ∷ []) m (connect_neighbors m parent previous next)
unfolding connect_neighbors
only-connect m parent previous next =
    only-named (λ t o. (o.1.0, (o.1.1.0, (o.0, (o.0, tt)))))
    (only_then (only-link _ previous NEXT _ (omega arith) (omega arith))
    (only_then (only-link _ next PREVIOUS _ (omega arith) (omega arith))
    (only_then (only-link _ parent FIRST _ (omega arith) (omega arith)) (only-link _ parent LAST _ (omega arith) (omega arith)))))

-- The ends of a range and what stood around it.
pub only-detach : (m : List ℕ) (first last : ℕ)
    → Only (first ∷ last ∷ link m first PARENT ∷ link m first PREVIOUS ∷ link (set_link m first PREVIOUS 0) last NEXT ∷ [])
    m (detach_range m first last)
unfolding detach_range
only-detach m first last =
    only_then (only-link m first PREVIOUS 0 (omega arith) (omega arith))
    (only_then (only-link _ last NEXT 0 (omega arith) (omega arith)) (only-connect _ _ _ _))

-- The nodes along next, which naming parents leaves in place.
along-ap : (n : ℕ) (m m' : List ℕ) (x : ℕ) → ((y : ℕ) → link m' y NEXT ≡ link m y NEXT) → along n m' x ≡ along n m x
unfolding along
along-ap zero m m' x f = refl
along-ap (suc n) m m' x f =
    ap (λ (l : List ℕ). x ∷ l) (along-ap n m m' (link m' x NEXT) f ∙ ap (along n m) (f x))

pub only_rewrite : (n : ℕ) (m : List ℕ) (child parent : ℕ) → Only (along n m child) m (rewrite_parents n m child parent).0
unfolding rewrite_parents along
only_rewrite zero m child parent = only_none [] m
only_rewrite (suc n) m child parent = by (eqb child 0) (eqb child parent)
    (only_rewrite n (set_link m child PARENT parent) (link (set_link m child PARENT parent) child NEXT) parent)
  where
    m₁ : List ℕ
    m₁ = set_link m child PARENT parent

    same : (y : ℕ) → link m₁ y NEXT ≡ link m y NEXT
    same y = link-other m child PARENT parent y NEXT (omega arith) (omega arith) (λ (e : NEXT ≡ PARENT). omega arith)

    by : (a b : Bool) → Only (along n m₁ (link m₁ child NEXT)) m₁ (rewrite_parents n m₁ (link m₁ child NEXT) parent).0
        → Only (child ∷ along n m (link m child NEXT)) m
        (cond a (m, Ok tt) (cond b (m, Err ParentChildLoop) (rewrite_parents n m₁ (link m₁ child NEXT) parent))).0
    by true b ih = only_none _ m
    by false true ih = only_none _ m
    by false false ih =
        only_then (only-link m child PARENT parent (omega arith) (omega arith))
        (subst (λ (ids : List ℕ). Only ids m₁ (rewrite_parents n m₁ (link m₁ child NEXT) parent).0)
        (along-ap n m m₁ (link m₁ child NEXT) same ∙ ap (along n m) (same child)) ih)

only-joined : (s : Result Unit ConsistencyError) (m : List ℕ) (first last parent previous next : ℕ)
    → Only (parent ∷ previous ∷ first ∷ last ∷ next ∷ []) m (joined s m first last parent previous next)
only-joined (Ok _) m first last parent previous next =
    only-named (λ t o. (o.0, (o.1.0, (o.1.1.0, (o.0, (o.1.1.1.0, (o.1.1.1.1.0, tt)))))))
    (only_then (only-connect m parent previous first) (only-connect _ parent last next))
only-joined (Err _) m first last parent previous next = only_none _ m

-- The range, its new parent and its new neighbours.
pub only-transplant : (n : ℕ) (m : List ℕ) (first last parent previous next : ℕ)
    → Only (along n m first ++ (parent ∷ previous ∷ first ∷ last ∷ next ∷ [])) m (transplanted n m first last parent previous next).0
unfolding transplanted
only-transplant n m first last parent previous next =
    only_then (only_rewrite n m first parent) (only-joined (rewrite_parents n m first parent).1 _ first last parent previous next)

-- A node put elsewhere: what stood around it, what walking from it names, and its new place.
pub only_insert : (n : ℕ) (m : List ℕ) (new parent previous next : ℕ)
    → Only (new ∷ new ∷ link m new PARENT ∷ link m new PREVIOUS ∷ link (set_link m new PREVIOUS 0) new NEXT
    ∷ (along n (detach_range m new new) new ++ (parent ∷ previous ∷ new ∷ new ∷ next ∷ [])))
    m (insert_with_neighbors n m new parent previous next).0
unfolding insert_with_neighbors
only_insert n m new parent previous next = by (eqb previous new) (eqb next new) (eqb parent new)
  where
    ids : List ℕ
    ids =
        new ∷ new ∷ link m new PARENT ∷ link m new PREVIOUS ∷ link (set_link m new PREVIOUS 0) new NEXT
        ∷ (along n (detach_range m new new) new ++ (parent ∷ previous ∷ new ∷ new ∷ next ∷ []))

    by : (a b c : Bool) → Only ids m
        (cond a (m, Err SiblingsLoop) (cond b (m, Err SiblingsLoop) (cond c (m, Err ParentChildLoop)
        (transplanted n (detach_range m new new) new new parent previous next)))).0
    by true b c = only_none ids m
    by false true c = only_none ids m
    by false false true = only_none ids m
    by false false false = only_then (only-detach m new new) (only-transplant n (detach_range m new new) new new parent previous next)

-- A detached node as the last child, or the first.
pub only-last : (n : ℕ) (m : List ℕ) (new parent : ℕ)
    → Only (along n m new ++ (parent ∷ link m parent LAST ∷ new ∷ new ∷ 0 ∷ [])) m (insert_last n m new parent).0
unfolding insert_last
only-last n m new parent = only-transplant n m new new parent (link m parent LAST) 0

pub only-first : (n : ℕ) (m : List ℕ) (new parent : ℕ)
    → Only (along n m new ++ (parent ∷ 0 ∷ new ∷ new ∷ link m parent FIRST ∷ [])) m (insert_first n m new parent).0
unfolding insert_first
only-first n m new parent = only-transplant n m new new parent 0 (link m parent FIRST)
