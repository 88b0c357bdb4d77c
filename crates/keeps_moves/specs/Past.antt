-- A change of links of found nodes alone writes no word beyond the slots in use.
use Rattle.std.specs.Prelude.{◌≡◌, List, [], ◌∷◌, ℕ, ◌+◌, ◌*◌, ◌/◌, ◌%◌, ◌<◌, ◌≤◌, get_or}
use Rattle.std.proofs.Common.{◌∙◌, inl, inr, arith}
use Rattle.std.proofs.Math.Decide.{ℕ_discrete}
use Rattle.link.specs.Ids.{slot_of}
use Rattle.link.specs.Words.{width, PARENT, PREVIOUS, NEXT, place, word, link, set_link}
use Rattle.link.specs.WordLaws.{link-other}
use Rattle.link.specs.Found.{Found}
use Rattle.link.specs.Only.{Other, Only}
use Rattle.link.proofs.OnlyLaws.{only-link, only_then, only-detach}
use Rattle.link.specs.declared.header.Header.{Header}
use Rattle.rules.specs.Lists.{All}
use Rattle.rules.specs.Links.{Link, par, prv, nxt, view}
use Rattle.rules.specs.Sound.{Sound}
use Rattle.forest.specs.Surgery.{detach_words, NoneOr}

-- The words of slots past the first `used` are as before.
abbrev pub Past : ℕ → List ℕ → List ℕ → Type 0
Past used m m' = (s j : ℕ) → used < s → j < width → word m' s j ≡ word m s j

pub past-then : (used : ℕ) (a b c : List ℕ) → Past used a b → Past used b c → Past used a c
past-then used a b c p q s j l w = q s j l w ∙ p s j l w

-- The same by position.
pub past_at : (used : ℕ) (m m' : List ℕ) → Past used m m' → (i : ℕ) → used * width ≤ i → get_or m' i 0 ≡ get_or m i 0
unfolding word
past_at used m m' p i l =
    let e : place (i / width + 1) (i % width) ≡ i = omega arith in
    rw e at (p (i / width + 1) (i % width) (omega arith) (omega arith))

pub only-past : (m : List ℕ) (used : ℕ) (ids m' : List ℕ) → All (NoneOr (Found m used)) ids → Only ids m m' → Past used m m'
only-past m used ids m' a o s j l w = o.others s j (omega arith) w (other ids a)
  where
    apart : (id : ℕ) → NoneOr (Found m used) id → s ≡ slot_of id → ⊥
    apart id (inl e) q = omega arith
    apart id (inr f) q = let b = f.upto in omega arith

    other : (ids : List ℕ) → All (NoneOr (Found m used)) ids → Other s ids
    other [] a = tt
    other (id ∷ ids) a = (apart id a.0, other ids a.1)

pub detach-past : (m : List ℕ) (h : Header) → Sound m h → (x : ℕ) → Found m h.used x → Past h.used m (detach_words m x)
unfolding detach_words
detach-past m h S x f =
    only-past m h.used _ _
    (inr f, (inr f, (near par, (near prv, (subst-next (near nxt), (inr f, tt))))))
    (only_then (only-detach m x x) (only-link _ x PARENT 0 (omega arith) (omega arith)))
  where
    near : (k : Link) → NoneOr (Found m h.used) (view m k x)
    near k = go (ℕ_discrete (view m k x) 0)
      where
        go : Dec (view m k x ≡ 0) → NoneOr (Found m h.used) (view m k x)
        go (yes e) = inl e
        go (no n) = inr (S.links.found x f k n)

    -- next is read after previous was written
    subst-next : NoneOr (Found m h.used) (link m x NEXT) → NoneOr (Found m h.used) (link (set_link m x PREVIOUS 0) x NEXT)
    subst-next w = rw (link-other m x PREVIOUS 0 x NEXT (omega arith) (omega arith) (λ (q : NEXT ≡ PREVIOUS). omega arith)) w
