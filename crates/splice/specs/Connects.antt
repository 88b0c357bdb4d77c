-- `connect_neighbors` by one write from each side, and so what taking a node out and tying nodes in write, by the definitions of this
-- crate. On any memory in which a parent named with a neighbour has children.
use Rattle.std.specs.Prelude.{cond, ◌≢◌, ◌≡◌, ℕ, ◌<◌, ◌≤◌, eqb}
use Rattle.std.proofs.Math.Path.{refl, sym, ap}
use Rattle.std.proofs.Common.{◌∙◌, arith}
use mathlib.Core.List.{List}
use Rattle.std.proofs.Math.Decide.{ℕ_discrete}
use borrow.Author.Tests.{eq-eqb, ne_eqb}
use Rattle.link.specs.Ids.{slot_of}
use Rattle.link.specs.Words.{width, PARENT, PREVIOUS, NEXT, FIRST, LAST, link, set_link}
use Rattle.link.specs.WordLaws.{link-other, set_link_none, length-set_link}
use Rattle.link.specs.Relations.{first_after, last_after, connect_neighbors}
use Rattle.link.specs.Siblings.{detach_range}
use Rattle.moves.specs.Detach.{detach}
use Rattle.forest.specs.Surgery.{place_words}
use Rattle.splice.specs.Splice.{Within, led, taken_out, tied_in, put_in}
use Rattle.splice.specs.Writes.{swap, again, as_is, reads}

-- The write from one side where nothing is spare: none where there is neither neighbour nor parent.
unfoldable side : List ℕ → ℕ → ℕ → ℕ → ℕ → ℕ → List ℕ
side m parent neighbour along end v = cond (eqb neighbour 0) (set_link m parent end v) (set_link m neighbour along v)

-- A parent named with a neighbour has a child at that end.
abbrev pub HasEnd : List ℕ → ℕ → ℕ → ℕ → Type 0
HasEnd m parent neighbour end = neighbour ≢ 0 → parent ≢ 0 → link m parent end ≢ 0

-- One side of the two, over the words along and end.
module _ (m : List ℕ) (o p k e v : ℕ) where
  side-end : p ≡ 0 → side m o p k e v ≡ set_link m o e v
  unfolding side
  side-end z = simp (eq-eqb p 0 z)

  side-along : p ≢ 0 → side m o p k e v ≡ set_link m p k v
  unfolding side
  side-along n = simp (ne_eqb p 0 n)

  side-link : (y j : ℕ) → k < width → e < width → j < width → (j ≡ k → ⊥) → (j ≡ e → ⊥) → link (side m o p k e v) y j ≡ link m y j
  side-link y j a b c n i = go (ℕ_discrete p 0)
    where
      go : Dec (p ≡ 0) → link (side m o p k e v) y j ≡ link m y j
      go (yes z) = ap (λ (w : List ℕ). link w y j) (side-end z) ∙ link-other m o e v y j b c i
      go (no z) = ap (λ (w : List ℕ). link w y j) (side-along z) ∙ link-other m p k v y j a c n

  -- a write of another word, or of another slot than the neighbour's, may come after it
  side-out : (x j w : ℕ) → k < width → e < width → j < width → (j ≡ e → ⊥) → (p ≢ 0 → j ≡ k → slot_of p ≡ slot_of x → ⊥)
      → side (set_link m x j w) o p k e v ≡ set_link (side m o p k e v) x j w
  unfolding side
  side-out x j w a b c n i = go (ℕ_discrete p 0)
    where
      go : Dec (p ≡ 0) → side (set_link m x j w) o p k e v ≡ set_link (side m o p k e v) x j w
      go (yes z) = simp (eq-eqb p 0 z) (swap m x j w o e v c b (λ q _. n q))
      go (no z) = simp (ne_eqb p 0 z) (swap m x j w p k v c a (λ q s. i z q (sym s)))

  -- the parent's end written before
  side-over : (w : ℕ) → (p ≢ 0 → w ≡ link m o e) → side (set_link m o e w) o p k e v ≡ side m o p k e v
  unfolding side
  side-over w f = go (ℕ_discrete p 0)
    where
      go : Dec (p ≡ 0) → side (set_link m o e w) o p k e v ≡ side m o p k e v
      go (yes z) = simp (eq-eqb p 0 z) (again m o e w v)
      go (no z) = simp (ne_eqb p 0 z) (ap (λ (s : List ℕ). set_link s p k v) (as_is m o e w (f z)))

  -- the spare node's own write mends what was written there
  mends : (x w : ℕ) → set_link (led m x o p k e v) x k w ≡ set_link (side m o p k e v) x k w
  unfolding led side
  mends x w = go (ℕ_discrete p 0) (ℕ_discrete o 0)
    where
      go : Dec (p ≡ 0) → Dec (o ≡ 0) → set_link (led m x o p k e v) x k w ≡ set_link (side m o p k e v) x k w
      go (no z) d = simp (ne_eqb p 0 z) refl
      go (yes z) (no n) = simp (eq-eqb p 0 z, ne_eqb o 0 n) refl
      go (yes z) (yes q) =
          simp (eq-eqb p 0 z, eq-eqb o 0 q)
          (again m x k v w ∙ ap (λ (s : List ℕ). set_link s x k w) (sym (set_link_none m o e v (omega arith))))

first_none : (old p n : ℕ) → p ≡ 0 → first_after old p n ≡ n
unfolding first_after
first_none old p n z = simp (eq-eqb p 0 z)

first-old : (old p n : ℕ) → p ≢ 0 → old ≢ 0 → first_after old p n ≡ old
unfolding first_after
first-old old p n z i = simp (ne_eqb p 0 z, ne_eqb old 0 i)

-- The neighbour's word and the parent's end, as `connect_neighbors` writes both.
side-both : (m : List ℕ) (o p k e v : ℕ) → k < width → e < width → (e ≡ k → ⊥) → HasEnd m o p e
    → set_link (set_link m p k v) o e (first_after (link m o e) p v) ≡ side m o p k e v
side-both m o p k e v a b n f = go (ℕ_discrete p 0) (ℕ_discrete o 0)
  where
    go : Dec (p ≡ 0) → Dec (o ≡ 0) → set_link (set_link m p k v) o e (first_after (link m o e) p v) ≡ side m o p k e v
    go (yes z) d =
        ap (set_link (set_link m p k v) o e) (first_none (link m o e) p v z)
        ∙ ap (λ (s : List ℕ). set_link s o e v) (set_link_none m p k v (omega arith)) ∙ sym (side-end m o p k e v z)
    go (no z) (yes q) = set_link_none _ o e _ (omega arith) ∙ sym (side-along m o p k e v z)
    go (no z) (no q) =
        as_is (set_link m p k v) o e _ (first-old (link m o e) p v z (f z q) ∙ sym (link-other m p k v o e a b n))
        ∙ sym (side-along m o p k e v z)

module _ (m : List ℕ) (o p n : ℕ) (f : HasEnd m o p FIRST) where
  abbrev left : List ℕ
  left = side m o p NEXT FIRST n

  left-last : link left o LAST ≡ link m o LAST
  left-last = side-link m o p NEXT FIRST n o LAST (omega arith) (omega arith) (omega arith) (λ (e : LAST ≡ NEXT). omega arith) (λ (e : LAST ≡ FIRST). omega arith)

  connect-left : connect_neighbors m o p n ≡ set_link (set_link left n PREVIOUS p) o LAST (first_after (link m o LAST) n p)
  unfolding connect_neighbors last_after
  connect-left = ap (λ (s : List ℕ). set_link s o LAST (first_after (link m o LAST) n p))
      (swap (set_link m p NEXT n) n PREVIOUS p o FIRST _ (omega arith) (omega arith) (λ (e : PREVIOUS ≡ FIRST) _. omega arith)
      ∙ ap (λ (s : List ℕ). set_link s n PREVIOUS p) (side-both m o p NEXT FIRST n (omega arith) (omega arith) (λ (e : FIRST ≡ NEXT). omega arith) f))

  connect_sides : HasEnd m o n LAST → connect_neighbors m o p n ≡ side left o n PREVIOUS LAST p
  connect_sides g =
      connect-left ∙ ap (λ (a : ℕ). set_link (set_link left n PREVIOUS p) o LAST (first_after a n p)) (sym left-last)
      ∙ side-both left o n PREVIOUS LAST p (omega arith) (omega arith) (λ (e : LAST ≡ PREVIOUS). omega arith)
      (λ a b c. g a b (sym left-last ∙ c))

-- Both sides, with the own writes of the spare nodes behind them.
both_mend : (m : List ℕ) (s t o p n v w a b : ℕ)
    → set_link (set_link (led (led m s o p NEXT FIRST v) t o n PREVIOUS LAST w) t PREVIOUS a) s NEXT b
    ≡ set_link (set_link (side (side m o p NEXT FIRST v) o n PREVIOUS LAST w) t PREVIOUS a) s NEXT b
both_mend m s t o p n v w a b =
    ap (λ (z : List ℕ). set_link z s NEXT b) (mends (led m s o p NEXT FIRST v) o n PREVIOUS LAST w t a)
    ∙ inside (led m s o p NEXT FIRST v)
    ∙ ap (λ (z : List ℕ). set_link (side z o n PREVIOUS LAST w) t PREVIOUS a) (mends m o p NEXT FIRST v s b)
    ∙ sym (inside (side m o p NEXT FIRST v))
  where
    inside : (z : List ℕ) → set_link (set_link (side z o n PREVIOUS LAST w) t PREVIOUS a) s NEXT b
        ≡ set_link (side (set_link z s NEXT b) o n PREVIOUS LAST w) t PREVIOUS a
    inside z =
        swap _ t PREVIOUS a s NEXT b (omega arith) (omega arith) (λ (e : PREVIOUS ≡ NEXT) _. omega arith)
        ∙ ap (λ (y : List ℕ). set_link y t PREVIOUS a)
        (sym (side-out z o n PREVIOUS LAST w s NEXT b (omega arith) (omega arith) (omega arith) (λ (e : NEXT ≡ LAST). omega arith) (λ _ (e : NEXT ≡ PREVIOUS) _. omega arith)))

-- Own writes of previous and next may come after the write from either side, where the neighbour there is another node.
own_out : (m : List ℕ) (s t o q k e v a b : ℕ) → k < width → FIRST ≤ e → e ≤ LAST
    → (q ≢ 0 → NEXT ≡ k → slot_of q ≡ slot_of s → ⊥) → (q ≢ 0 → PREVIOUS ≡ k → slot_of q ≡ slot_of t → ⊥)
    → side (set_link (set_link m t PREVIOUS a) s NEXT b) o q k e v ≡ set_link (set_link (side m o q k e v) t PREVIOUS a) s NEXT b
own_out m s t o q k e v a b c d l f g =
    side-out (set_link m t PREVIOUS a) o q k e v s NEXT b c (omega arith) (omega arith) (λ (i : NEXT ≡ e). omega arith) f
    ∙ ap (λ (z : List ℕ). set_link z s NEXT b) (side-out m o q k e v t PREVIOUS a c (omega arith) (omega arith) (λ (i : PREVIOUS ≡ e). omega arith) g)

-- ---- a node taken out

module _ (m : List ℕ) (x : ℕ) where
  abbrev o : ℕ
  o = link m x PARENT

  abbrev p : ℕ
  p = link m x PREVIOUS

  abbrev n : ℕ
  n = link m x NEXT

  abbrev cut : List ℕ
  cut = set_link (set_link m x PREVIOUS 0) x NEXT 0

  cut-end : (e : ℕ) → e < width → (e ≡ PREVIOUS → ⊥) → (e ≡ NEXT → ⊥) → link cut o e ≡ link m o e
  cut-end e a f g = link-other _ x NEXT 0 o e (omega arith) a g ∙ link-other m x PREVIOUS 0 o e (omega arith) a f

  pub out-words : HasEnd m o p FIRST → HasEnd m o n LAST → (p ≢ 0 → slot_of p ≡ slot_of x → ⊥) → (n ≢ 0 → slot_of n ≡ slot_of x → ⊥)
      → taken_out m x ≡ detach m x
  unfolding taken_out detach detach_range
  out-words f g i j =
      ap (λ (z : List ℕ). set_link z x NEXT 0)
      (swap _ x PARENT 0 x PREVIOUS 0 (omega arith) (omega arith) (λ (e : PARENT ≡ PREVIOUS) _. omega arith))
      ∙ swap _ x PARENT 0 x NEXT 0 (omega arith) (omega arith) (λ (e : PARENT ≡ NEXT) _. omega arith)
      ∙ ap (λ (z : List ℕ). set_link z x PARENT 0) (both_mend m x x o p n n p 0 0 ∙ sym slim)
    where
      next : link (set_link m x PREVIOUS 0) x NEXT ≡ n
      next = link-other m x PREVIOUS 0 x NEXT (omega arith) (omega arith) (λ (e : NEXT ≡ PREVIOUS). omega arith)

      slim : connect_neighbors cut o p (link (set_link m x PREVIOUS 0) x NEXT)
          ≡ set_link (set_link (side (side m o p NEXT FIRST n) o n PREVIOUS LAST p) x PREVIOUS 0) x NEXT 0
      slim =
          ap (connect_neighbors cut o p) next
          ∙ connect_sides cut o p n
          (λ a b c. f a b (sym (cut-end FIRST (omega arith) (λ (e : FIRST ≡ PREVIOUS). omega arith) (λ (e : FIRST ≡ NEXT). omega arith)) ∙ c))
          (λ a b c. g a b (sym (cut-end LAST (omega arith) (λ (e : LAST ≡ PREVIOUS). omega arith) (λ (e : LAST ≡ NEXT). omega arith)) ∙ c))
          ∙ ap (λ (z : List ℕ). side z o n PREVIOUS LAST p)
          (own_out m x x o p NEXT FIRST n 0 0 (omega arith) (omega arith) (omega arith) (λ z _. i z) (λ _ (e : PREVIOUS ≡ NEXT) _. omega arith))
          ∙ own_out (side m o p NEXT FIRST n) x x o n PREVIOUS LAST p 0 0 (omega arith) (omega arith) (omega arith) (λ _ (e : NEXT ≡ PREVIOUS) _. omega arith) (λ z _. j z)

-- ---- siblings tied in

module _ (m : List ℕ) (first last o p n : ℕ) (some_IsFirst : first ≢ 0) (some-last : last ≢ 0) (within : o ≢ 0 → Within m o)
    (f : HasEnd m o p FIRST) (g : HasEnd m o n LAST) (apart : n ≢ 0 → slot_of n ≡ slot_of first → ⊥) where
  abbrev before : List ℕ
  before = side m o p NEXT FIRST first

  abbrev value : ℕ
  value = first_after (link m o LAST) first p

  -- after the first two are neighbours the parent has a first child
  middle-first : o ≢ 0 → link (connect_neighbors m o p first) o FIRST ≢ 0
  middle-first oz z =
      go (ℕ_discrete p 0)
      (sym (link-other _ o LAST value o FIRST (omega arith) (omega arith) (λ (e : FIRST ≡ LAST). omega arith)
      ∙ link-other before first PREVIOUS p o FIRST (omega arith) (omega arith) (λ (e : FIRST ≡ PREVIOUS). omega arith))
      ∙ ap (λ (w : List ℕ). link w o FIRST) (sym (connect-left m o p first f)) ∙ z)
    where
      go : Dec (p ≡ 0) → link before o FIRST ≡ 0 → ⊥
      go (yes q) e =
          let (a, b) = within oz in
          some_IsFirst (sym (reads m o FIRST first (omega arith) a b) ∙ ap (λ (w : List ℕ). link w o FIRST) (sym (side-end m o p NEXT FIRST first q)) ∙ e)
      go (no q) e =
          f q oz (sym (link-other m p NEXT first o FIRST (omega arith) (omega arith) (λ (i : FIRST ≡ NEXT). omega arith))
          ∙ ap (λ (w : List ℕ). link w o FIRST) (sym (side-along m o p NEXT FIRST first q)) ∙ e)

  before_last : link (set_link before first PREVIOUS p) o LAST ≡ link m o LAST
  before_last = link-other before first PREVIOUS p o LAST (omega arith) (omega arith) (λ (e : LAST ≡ PREVIOUS). omega arith) ∙ left-last m o p first f

  -- and, with a neighbour behind, the last child that it had
  stands : n ≢ 0 → o ≢ 0 → value ≡ link (set_link before first PREVIOUS p) o LAST
  stands nz oz = first-old (link m o LAST) first p some_IsFirst (g nz oz) ∙ sym before_last

  middle-last : HasEnd (connect_neighbors m o p first) o n LAST
  middle-last nz oz z =
      g nz oz (sym before_last ∙ ap (λ (w : List ℕ). link w o LAST) (sym (connect-left m o p first f ∙ as_is _ o LAST value (stands nz oz))) ∙ z)

  -- where there is no parent its end is not written
  over : side (set_link (set_link (set_link before first PREVIOUS p) last NEXT n) o LAST value) o n PREVIOUS LAST last
      ≡ side (set_link (set_link before first PREVIOUS p) last NEXT n) o n PREVIOUS LAST last
  over = go (ℕ_discrete o 0)
    where
      go : Dec (o ≡ 0) → side (set_link (set_link (set_link before first PREVIOUS p) last NEXT n) o LAST value) o n PREVIOUS LAST last
          ≡ side (set_link (set_link before first PREVIOUS p) last NEXT n) o n PREVIOUS LAST last
      go (yes z) = ap (λ (w : List ℕ). side w o n PREVIOUS LAST last) (set_link_none _ o LAST value (omega arith))
      go (no z) =
          side-over _ o n PREVIOUS LAST last value
          (λ nz. stands nz z ∙ sym (link-other _ last NEXT n o LAST (omega arith) (omega arith) (λ (e : LAST ≡ NEXT). omega arith)))

  pub tied-words : tied_in m first last o p n ≡ connect_neighbors (connect_neighbors m o p first) o last n
  unfolding tied_in
  tied-words =
      both_mend m last first o p n first last p n
      ∙ sym (connect_sides (connect_neighbors m o p first) o last n (λ _ oz. middle-first oz) middle-last
      ∙ ap (λ (w : List ℕ). side w o n PREVIOUS LAST last)
      (side-along (connect_neighbors m o p first) o last NEXT FIRST n some-last
      ∙ ap (λ (w : List ℕ). set_link w last NEXT n) (connect-left m o p first f)
      ∙ swap _ o LAST value last NEXT n (omega arith) (omega arith) (λ (e : LAST ≡ NEXT) _. omega arith))
      ∙ over
      ∙ own_out before last first o n PREVIOUS LAST last p n (omega arith) (omega arith) (omega arith) (λ _ (e : NEXT ≡ PREVIOUS) _. omega arith) (λ z _. apart z))

pub in_words : (m : List ℕ) (x o p n : ℕ) → x ≢ 0 → (o ≢ 0 → Within m o) → HasEnd m o p FIRST → HasEnd m o n LAST → (n ≢ 0 → slot_of n ≡ slot_of x → ⊥)
    → put_in m x o p n ≡ place_words m x o p n
unfolding put_in place_words
in_words m x o p n some within f g apart =
    tied-words (set_link m x PARENT o) x x o p n some some
    (λ z. let (a, b) = within z in (a, rw (length-set_link m x PARENT o) b))
    (λ a b c. f a b (sym (link-other m x PARENT o o FIRST (omega arith) (omega arith) (λ (e : FIRST ≡ PARENT). omega arith)) ∙ c))
    (λ a b c. g a b (sym (link-other m x PARENT o o LAST (omega arith) (omega arith) (λ (e : LAST ≡ PARENT). omega arith)) ∙ c))
    apart
