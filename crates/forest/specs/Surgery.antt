-- The words that surgery writes make memory look as its view says: neighbours connected, a node detached, a node put in a place.
-- Each is a run of writes of one link, so each is a run of `looks_write`.
use Rattle.std.specs.Prelude.{◌≡◌, refl, ◌≢◌, ◌⊎◌}
use Rattle.std.proofs.Common.{sym, ap, ◌∙◌, subst, inl, inr, suc-ne-zero, arith, ne_eqb}
use mathlib.Core.List.{List, [], ◌∷◌}
use Prim.Native.Nat.{ℕ, zero, suc}
use Rattle.std.proofs.Math.Decide.{ℕ_discrete}
use Rattle.link.specs.Words.{PARENT, PREVIOUS, NEXT, FIRST, LAST, link, set_link}
use Rattle.link.specs.WordLaws.{link-other, set_link_none}
use Rattle.link.specs.Relations.{first_after, last_after, connect_neighbors}
use Rattle.link.specs.Siblings.{detach_range}
use Rattle.rules.specs.Links.{Link, par, prv, nxt, fst, lst, View}
use Rattle.forest.specs.View.{upd, first_of, connect, detach}
use Rattle.forest.specs.Found.{Nodes}
use Rattle.forest.specs.Insert.{all_at, reparent, transplant}
use Rattle.forest.specs.Looks.{Looks, looks_write}

-- x leaves its chain and becomes a chain of one
unfoldable pub detach_words : List ℕ → ℕ → List ℕ
detach_words m x = set_link (detach_range m x x) x PARENT 0

-- x, alone, goes under o between p and n
unfoldable pub place_words : List ℕ → ℕ → ℕ → ℕ → ℕ → List ℕ
place_words m x o p n = connect_neighbors (connect_neighbors (set_link m x PARENT o) o p x) o x n

first-same : (old p n : ℕ) → first_after old p n ≡ first_of p n old
unfolding first_after
first-same old zero n = refl
first-same zero (suc p) n = simp (ne_eqb (suc p) 0 (suc-ne-zero p))
first-same (suc old) (suc p) n = simp (ne_eqb (suc p) 0 (suc-ne-zero p), ne_eqb (suc old) 0 (suc-ne-zero old))

one_parent : (v : View) (x o : ℕ) → reparent v (x ∷ []) o ≡ upd v par x o
unfolding all_at
one_parent v x o = λ i k. at-link k i
  where
    at-link : (k : Link) → reparent v (x ∷ []) o k ≡ upd v par x o k
    at-link par = refl
    at-link prv = refl
    at-link nxt = refl
    at-link fst = refl
    at-link lst = refl

-- a live node, or none
abbrev pub NoneOr : (ℕ → Type 0) → ℕ → Type 0
NoneOr live x = (x ≡ 0) ⊎ live x

module _ (live : ℕ → Type 0) (N : Nodes live) (used : ℕ) where
  pub looks-connect : (m : List ℕ) (v : View) (o p n : ℕ) → NoneOr live o → NoneOr live p → NoneOr live n → Looks m live used v
      → Looks (connect_neighbors m o p n) live used (connect v o p n)
  unfolding connect_neighbors connect last_after
  looks-connect m v o p n ho hp hn L = go ho
    where
      m₂ : List ℕ
      m₂ = set_link (set_link m p NEXT n) n PREVIOUS p

      tie : (f l : ℕ) → Looks (set_link (set_link m₂ o FIRST f) o LAST l) live used (upd (upd (upd (upd v nxt p n) prv n p) fst o f) lst o l)
      tie f l =
          looks_write _ live N used _ lst o l ho (looks_write _ live N used _ fst o f ho
          (looks_write _ live N used _ prv n p hn (looks_write m live N used v nxt p n hp L)))

      none : (a : List ℕ) (k f l : ℕ) → o ≡ 0 → set_link a o k f ≡ set_link a o k l
      none a k f l e = set_link_none a o k f (omega arith) ∙ sym (set_link_none a o k l (omega arith))

      first_is : live o → first_after (link m o FIRST) p n ≡ first_of p n (v fst o)
      first_is l = first-same (link m o FIRST) p n ∙ ap (first_of p n) (L.sees fst o l)

      last_is : live o → first_after (link m o LAST) n p ≡ first_of n p (v lst o)
      last_is l = first-same (link m o LAST) n p ∙ ap (first_of n p) (L.sees lst o l)

      go : NoneOr live o → Looks (connect_neighbors m o p n) live used (connect v o p n)
      go (inl e) =
          subst (λ (a : List ℕ). Looks a live used (connect v o p n))
          (none _ LAST _ _ e ∙ ap (λ (a : List ℕ). set_link a o LAST (first_after (link m o LAST) n p)) (none m₂ FIRST _ _ e))
          (tie (first_of p n (v fst o)) (first_of n p (v lst o)))
      go (inr l) = rw (first_is l, last_is l) (tie _ _)

  pub looks-detach : (m : List ℕ) (v : View) (x : ℕ) → live x → ((k : Link) → v k x ≢ 0 → live (v k x)) → Looks m live used v
      → Looks (detach_words m x) live used (detach v x)
  unfolding detach_words detach detach_range
  looks-detach m v x lx found L =
      looks_write _ live N used _ par x 0 (inr lx)
      (rw (L.sees par x lx, L.sees prv x lx, next)
      (looks-connect _ _ (v par x) (v prv x) (v nxt x) (or par) (or prv) (or nxt)
      (looks_write _ live N used _ nxt x 0 (inr lx) (looks_write m live N used v prv x 0 (inr lx) L))))
    where
      -- next is read after previous was written
      next : link (set_link m x PREVIOUS 0) x NEXT ≡ v nxt x
      next = link-other m x PREVIOUS 0 x NEXT (omega arith) (omega arith) (λ (e : NEXT ≡ PREVIOUS). omega arith) ∙ L.sees nxt x lx

      or : (k : Link) → NoneOr live (v k x)
      or k = go (ℕ_discrete (v k x) 0)
        where
          go : Dec (v k x ≡ 0) → NoneOr live (v k x)
          go (yes e) = inl e
          go (no h) = inr (found k h)

  pub looks-place : (m : List ℕ) (v : View) (x o p n : ℕ) → live x → NoneOr live o → NoneOr live p → NoneOr live n → Looks m live used v
      → Looks (place_words m x o p n) live used (transplant v o p n (x ∷ []))
  unfolding place_words transplant
  looks-place m v x o p n lx ho hp hn L =
      rw (one_parent v x o)
      (looks-connect _ _ o x n ho (inr lx) hn (looks-connect _ _ o p x ho hp (inr lx) (looks_write m live N used v par x o (inr lx) L)))
