-- A node that stands alone goes where the target has it, once over the place: the links that the code reads are the neighbours that
-- the rule names, the words written are those of a node put between them, and ready memory stays ready.
use Rattle.std.specs.Prelude.{◌≡◌, refl, ◌≢◌, ◌⊎◌, List, [], ◌∷◌, ◌++◌, ℕ, ◌*◌, ◌≤◌, length, Result, Ok}
use Rattle.std.proofs.Common.{sym, ap, ◌∙◌, subst, inl, inr, append-nil, append_assoc, arith}
use Rattle.link.specs.Words.{width, PARENT, FIRST, LAST, link}
use Rattle.link.specs.Siblings.{insert_with_neighbors}
use Rattle.link.specs.Found.{Found}
use Rattle.link.proofs.OnlyLaws.{only-link, only_then, only-connect}
use Rattle.link.specs.declared.header.Header.{Header}
use Rattle.link.specs.declared.siblings_range.ConsistencyError.{ConsistencyError}
use Rattle.rules.specs.Lists.{head_or, last_or, In, Off}
use Rattle.rules.specs.Links.{par, prv, nxt, view}
use Rattle.rules.specs.Sound.{Ready}
use Rattle.rules.specs.Forest.{Key, children, roots, owner, Forest, Segment, Chain, OwnerIn}
use Rattle.rules.specs.Tree.{Above, self, higher}
use Rattle.forest.specs.Lists.{in_right, off-left, off-right, off-not_in, last-append, last_in, head_in}
use Rattle.forest.specs.Segments.{seg-right}
use Rattle.forest.specs.Members.{far_off}
use Rattle.forest.specs.Surgery.{place_words, NoneOr}
use Rattle.forest.specs.Places.{left-live, right-live, owner-live}
use Rattle.forest.specs.PlaceWords.{place_forested, place-ready}
use Rattle.forest.specs.Transplant.{insert-alone, last-alone, first_alone}
use Rattle.forest.specs.Found.{found_some}
use Rattle.forest.specs.Whole.{Forested}
use Rattle.moves.specs.Places.{between, spot}
use Rattle.moves.specs.Values.{put_new}
use Rattle.moves.specs.declared.place.Spot.{Spot}
use Rattle.moves.specs.declared.place.Place.{Place}
use Rattle.moves.specs.declared.place.Place.TheVariants.{Append, Prepend, After, Before}
use Rattle.keeps_moves.specs.Rule.{Goes, Puts}
use Rattle.keeps_moves.specs.Past.{Past, only-past}

children-roots : (p j : ℕ) → children p ≡ roots j → ⊥
children-roots p j e = let z : ◌≡◌ {A = ℕ} 0 1 = cc in absurd (omega arith)

-- A node y between ls and rs of the chain k: the chain's parent is there, and the node's links are the chain's.
module _ (m : List ℕ) (h : Header) (F : Forest) (H : Forested m h F) (k : Key) (ls : List ℕ) (y : ℕ) (rs : List ℕ) (e : F k ≡ ls ++ y ∷ rs) where
  pub here : In y (F k)
  here = rw e (in_right y ls (y ∷ rs) (inl refl))

  pub owned : OwnerIn (Found m h.used) k
  owned = (H.members.member k y here).2

  pub from-here : Segment (view m par) (view m prv) (view m nxt) (owner k) (last_or 0 ls) (y ∷ rs) 0
  from-here =
      seg-right (view m par) (view m prv) (view m nxt) (owner k) 0 ls (y ∷ rs) 0
      (subst (λ (xs : List ℕ). Segment (view m par) (view m prv) (view m nxt) (owner k) 0 xs 0) e (H.chains k owned).segment)

module _ (m : List ℕ) (h : Header) (F : Forest) (H : Forested m h F) (t x j : ℕ) (alone : F (roots j) ≡ x ∷ [])
    (ft : Found m h.used t) (ne : t ≢ x) where
  abbrev live : ℕ → Type 0
  live = Found m h.used

  -- What the rule's place is on words.
  record Lands (place : Place) (k : Key) (ls rs : List ℕ) : Type 0 where
    cut : F k ≡ ls ++ rs
    ok : OwnerIn live k
    other : k ≢ roots j
    reads : spot place m t ≡ between (owner k) (last_or 0 ls) (head_or rs 0)
    up : Above (view m par) x (owner k) → Above (view m par) x t

  not-alone : (k : Key) → In t (F k) → k ≢ roots j
  not-alone k i q = go (subst (In t) (ap F q ∙ alone) i)
    where
      go : In t (x ∷ []) → ⊥
      go (inl e) = ne e
      go (inr x'') = elim x'' [ ]

  lands : (place : Place) (k : Key) (ls rs : List ℕ) → Goes place F t k ls rs → Lands place k ls rs
  lands Append k ls rs (ek, el, er) = record {
    cut = el ∙ sym (append-nil ls) ∙ ap (λ (r : List ℕ). ls ++ r) (sym er);
    ok = rw ek ft;
    other = λ q. children-roots t j (sym ek ∙ q);
    reads =
        let a : owner k ≡ t = ap owner ek in
        let b : link m t LAST ≡ last_or 0 ls = (H.chains (children t) ft).last (found_some m h.used t ft) ∙ ap (last_or 0) (ap F (sym ek) ∙ el) in
        let c : head_or rs 0 ≡ 0 = ap (λ (r : List ℕ). head_or r 0) er in cc;
    up = subst (Above (view m par) x) (ap owner ek);
  }
  lands Prepend k ls rs (ek, el, er) = record {
    cut = er ∙ ap (λ (l : List ℕ). l ++ rs) (sym el);
    ok = rw ek ft;
    other = λ q. children-roots t j (sym ek ∙ q);
    reads =
        let a : owner k ≡ t = ap owner ek in
        let b : link m t FIRST ≡ head_or rs 0 = (H.chains (children t) ft).first (found_some m h.used t ft) ∙ ap (λ (r : List ℕ). head_or r 0) (ap F (sym ek) ∙ er) in
        let c : last_or 0 ls ≡ 0 = ap (last_or 0) el in cc;
    up = subst (Above (view m par) x) (ap owner ek);
  }
  lands After k ls rs (fs, el, e) =
      let s = from-here m h F H k fs t rs e in record {
        cut = e ∙ sym (append_assoc fs (t ∷ []) rs) ∙ ap (λ (l : List ℕ). l ++ rs) (sym el);
        ok = owned m h F H k fs t rs e;
        other = not-alone k (here m h F H k fs t rs e);
        reads =
            let a = s.0 in
            let b : last_or 0 ls ≡ t = ap (last_or 0) el ∙ last-append 0 fs (t ∷ []) in
            let c = s.2 in cc;
        up = λ a. higher (found_some m h.used t ft) (subst (Above (view m par) x) (sym s.0) a);
      }
  lands Before k ls rs (gs, er, e) =
      let s = from-here m h F H k ls t gs e in record {
        cut = e ∙ ap (λ (r : List ℕ). ls ++ r) (sym er);
        ok = owned m h F H k ls t gs e;
        other = not-alone k (here m h F H k ls t gs e);
        reads =
            let a = s.0 in
            let b = s.1 in
            let c : head_or rs 0 ≡ t = ap (λ (r : List ℕ). head_or r 0) er in cc;
        up = λ a. higher (found_some m h.used t ft) (subst (Above (view m par) x) (sym s.0) a);
      }

-- The words of a node put between ls and rs of the chain k.
abbrev pub put_words : List ℕ → ℕ → Key → List ℕ → List ℕ → List ℕ
put_words m x k ls rs = place_words m x (owner k) (last_or 0 ls) (head_or rs 0)

module _ (m : List ℕ) (h : Header) (F : Forest) (H : Forested m h F) (t x j : ℕ) (alone : F (roots j) ≡ x ∷ [])
    (ft : Found m h.used t) (ne : t ≢ x) (below : Above (view m par) x t → ⊥) (place : Place) (F' : Forest) (P : Puts place F t x j F') where
  L : Lands m h F H t x j alone ft ne place P.key P.left P.right
  L = lands m h F H t x j alone ft ne place P.key P.left P.right P.goes

  stood : In x (F (roots j))
  stood = rw alone (inl refl)

  some : x ≢ 0
  some = found_some m h.used x (H.members.member (roots j) x stood).0

  off : Off x (P.left ++ P.right)
  off = subst (Off x) L.cut (far_off (Found m h.used) F H.members (roots j) P.key x L.other stood)

  -- its neighbours and its parent are others
  previous-other : last_or 0 P.left ≢ x
  previous-other e = go (last_in 0 P.left)
    where
      go : (last_or 0 P.left ≡ 0) ⊎ In (last_or 0 P.left) P.left → ⊥
      go (inl z) = some (sym e ∙ z)
      go (inr i) = off-not_in x P.left (off-left x P.left P.right off) (subst (λ (y : ℕ). In y P.left) e i)

  next-other : head_or P.right 0 ≢ x
  next-other e = go (head_in P.right)
    where
      go : (head_or P.right 0 ≡ 0) ⊎ In (head_or P.right 0) P.right → ⊥
      go (inl z) = some (sym e ∙ z)
      go (inr i) = off-not_in x P.right (off-right x P.left P.right off) (subst (λ (y : ℕ). In y P.right) e i)

  parent-other : owner P.key ≢ x
  parent-other e = below (L.up (subst (Above (view m par) x) (sym e) (self some)))

  -- it has neither of them yet
  segment : Segment (view m par) (view m prv) (view m nxt) 0 0 (x ∷ []) 0
  segment = (subst (Chain (view m) 0) alone (H.chains (roots j) tt)).segment

  -- What the code writes.
  pub put_in : (n : ℕ) → 2 ≤ n → insert_with_neighbors n m x (spot place m t).parent (spot place m t).previous (spot place m t).next
      ≡ (put_words m x P.key P.left P.right, Ok tt)
  put_in n l =
      ap (λ (s : Spot). insert_with_neighbors n m x s.parent s.previous s.next) L.reads
      ∙ insert-alone n m x (owner P.key) (last_or 0 P.left) (head_or P.right 0) l some previous-other next-other parent-other
      segment.0 segment.1 segment.2

  pub put_new_lem : (n : ℕ) → 2 ≤ n → put_new place n m t x ≡ (put_words m x P.key P.left P.right, Ok tt)
  put_new_lem n l = go place L.reads (put_in n l)
    where
      words : List ℕ
      words = put_words m x P.key P.left P.right

      at-spot : Spot → List ℕ × Result Unit ConsistencyError
      at-spot s = (place_words m x s.parent s.previous s.next, Ok tt)

      go : (place : Place) → spot place m t ≡ between (owner P.key) (last_or 0 P.left) (head_or P.right 0)
          → insert_with_neighbors n m x (spot place m t).parent (spot place m t).previous (spot place m t).next ≡ (words, Ok tt)
          → put_new place n m t x ≡ (words, Ok tt)
      go Append e i = last-alone n m x t l some (λ q. ne (sym q)) segment.2 ∙ ap at-spot e
      go Prepend e i = first_alone n m x t l some (λ q. ne (sym q)) segment.2 ∙ ap at-spot e
      go After e i = i
      go Before e i = i

  -- What memory holds then.
  module _ (room : h.used * width ≤ length m) where
    pub put_forested : Forested (put_words m x P.key P.left P.right) h F'
    put_forested = rw P.is (place_forested m h room F H x j alone P.key P.left P.right L.cut L.ok L.other)

    pub put-ready : Ready m h → Ready (put_words m x P.key P.left P.right) h
    put-ready R = place-ready m h room F H x j alone P.key P.left P.right L.cut L.ok L.other R (λ a. below (L.up a))

    pub put-past : Past h.used m (put_words m x P.key P.left P.right)
    unfolding place_words
    put-past =
        only-past m h.used _ _ (inr node, (o, (p, (inr node, (o, (inr node, (q, tt)))))))
        (only_then (only-link m x PARENT (owner P.key) (omega arith) (omega arith)) (only_then (only-connect _ _ _ _) (only-connect _ _ _ _)))
      where
        node : Found m h.used x
        node = (H.members.member (roots j) x stood).0

        o : NoneOr (Found m h.used) (owner P.key)
        o = owner-live (Found m h.used) P.key L.ok

        p : NoneOr (Found m h.used) (last_or 0 P.left)
        p = left-live (view m) (Found m h.used) F H P.key P.left P.right L.cut

        q : NoneOr (Found m h.used) (head_or P.right 0)
        q = right-live (view m) (Found m h.used) F H P.key P.left P.right L.cut
