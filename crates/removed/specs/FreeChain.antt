-- A freed slot joins the free chain at its end, unless freeing it spends it; so one node is gone, and nothing else that is found
-- has another number. From the words of a freed node.
use Rattle.std.specs.Prelude.{◌≡◌, refl, ◌≢◌, ◌⊎◌, List, [], ◌∷◌, ◌++◌, ℕ, ◌+◌, ◌*◌, ◌<◌, ◌≤◌, length}
use Rattle.std.proofs.Common.{sym, ap, ◌∙◌, subst, inl, inr, append-nil, arith, eq-eqb, ne_eqb}
use Rattle.link.specs.Ids.{slot_of, stamp_of}
use Rattle.link.specs.Stamps.{removed_bits}
use Rattle.link.specs.Words.{width, STAMP, NUMBER, word, set_word}
use Rattle.link.specs.WordLaws.{word_same, word-slot}
use Rattle.link.specs.Found.{Found}
use Rattle.link.specs.declared.header.Header.{Header}
use Rattle.rules.specs.Answers.{header}
use Rattle.rules.specs.Lists.{head_or, last_or, In, Off, NoDup, All}
use Rattle.rules.specs.Sound.{FreeSlot, Unspent, Linked}
use Rattle.forest.specs.Lists.{all_of, all_in, off-last, last_in, nodup_append, apart_of, not_in_off}
use Rattle.arena.specs.Nodes.{freed_at}
use Rattle.arena.specs.FreeList.{free_node}
use Rattle.arena.specs.FreeListLaws.{length-slot_at}
use Rattle.keeps.specs.Slots.{slot-other, slot-number}
use Rattle.removal.specs.Freeable.{Freeable}
use Rattle.removed.specs.Gone.{joins, Gone}
use Rattle.removed.specs.Queue.{Queue}
use Rattle.removed.specs.FreeWords.{free_elim, free-used, free-length, free-word, free-stamp, stamp-same, other-slot, found-freed}

-- the chain with one more at its end
linked-more : (f g : ℕ → ℕ) (s a : ℕ) (fs : List ℕ) → NoDup (a ∷ fs) → Linked f (a ∷ fs)
    → ((t : ℕ) → In t (a ∷ fs) → t ≢ last_or a fs → g t ≡ f t) → g (last_or a fs) ≡ s → g s ≡ 0 → Linked g ((a ∷ fs) ++ s ∷ [])
linked-more f g s a [] nd l same e z = (e, (z, tt))
linked-more f g s a (b ∷ fs) nd l same e z =
    (same a (inl refl) (off-last a b fs nd.0) ∙ l.0, linked-more f g s b fs nd.1 l.1 (λ t i n. same t (inr i) n) e z)

all_more : (P : ℕ → Type 0) (fs : List ℕ) (s : ℕ) → All P fs → P s → All P (fs ++ s ∷ [])
all_more P [] s a p = (p, tt)
all_more P (t ∷ fs) s a p = (a.0, all_more P fs s a.1 p)

last_more : (b : ℕ) (fs : List ℕ) (s : ℕ) → last_or b (fs ++ s ∷ []) ≡ s
last_more b [] s = refl
last_more b (t ∷ fs) s = last_more t fs s

-- a chain whose last is none is empty
none_last : (P : ℕ → Type 0) → ((t : ℕ) → P t → t ≢ 0) → (fs : List ℕ) → All P fs → last_or 0 fs ≡ 0 → fs ≡ []
none_last P some [] a e = refl
none_last P some (t ∷ fs) a e = absurd (ended t fs a e)
  where
    ended : (t : ℕ) (gs : List ℕ) → All P (t ∷ gs) → last_or t gs ≡ 0 → ⊥
    ended t [] a e = some t a.0 e
    ended t (b ∷ gs) a e = ended b gs a.1 e

module _ (m : List ℕ) (h : Header) (c : ℕ) (f : Freeable m h c) (fs : List ℕ) (q : Queue m h fs) where
  abbrev s : ℕ
  s = slot_of c

  abbrev bits : ℕ
  bits = removed_bits (stamp_of c)

  abbrev m₁ : List ℕ
  m₁ = freed_at m s bits

  abbrev m₂ : List ℕ
  m₂ = set_word m₁ h.last NUMBER s

  abbrev m' : List ℕ
  m' = (free_node m h c).0

  abbrev h' : Header
  h' = (free_node m h c).1

  some : 0 < s
  some = f.0.from

  room : s * width ≤ length m
  room = let a = f.0.upto in let b = f.1 in omega arith

  -- a free slot is not the node's
  apart : (t : ℕ) → In t fs → t ≢ s
  apart t i e =
      let w = all_in _ fs q.within t i in
      let a : stamp_of (word m t STAMP) ≡ stamp_of c = ap (λ (z : ℕ). stamp_of (word m z STAMP)) e ∙ f.0.stamp in
      let small = f.0.small in let b : 32768 ≤ stamp_of (word m t STAMP) = w.2.0 in omega arith

  last_apart : h.last ≢ s
  last_apart e = by (last_in 0 fs)
    where
      by : (last_or 0 fs ≡ 0) ⊎ In (last_or 0 fs) fs → ⊥
      by (inl z) = let p = some in let k : h.last ≡ 0 = q.ends ∙ z in omega arith
      by (inr i) = apart (last_or 0 fs) i (sym q.ends ∙ e)

  off : Off s fs
  off = not_in_off s fs (λ i. apart s i refl)

  positive : (t : ℕ) → In t fs → 0 < t
  positive t i = (all_in _ fs q.within t i).0

  -- the slots that were on it
  old-within : All (λ t. (1 ≤ t) × (t ≤ h.used) × FreeSlot m' t) fs
  old-within = all_of _ fs (λ t i. let w = all_in _ fs q.within t i in (w.0, w.1, rw (stamp-same m h c f t (positive t i) (apart t i)) w.2))

  old-unspent : All (Unspent m') fs
  old-unspent = all_of _ fs (λ t i. rw (stamp-same m h c f t (positive t i) (apart t i)) (all_in _ fs q.unspent t i))

  -- the node's own slot
  new-within : (1 ≤ s) × (s ≤ h.used) × FreeSlot m' s
  new-within = let small = f.0.small in let w = free-stamp m h c f in (some, f.0.upto, (omega arith, omega arith))

  new-unspent : stamp_of c ≢ 32767 → Unspent m' s
  new-unspent n e = let small = f.0.small in let w = free-stamp m h c f in n (omega arith)

  distinct : NoDup (fs ++ s ∷ [])
  distinct = nodup_append fs (s ∷ []) q.distinct (tt, tt) (apart_of fs (s ∷ []) (λ t i. (apart t i, tt)))

  next_none : word m' s NUMBER ≡ 0
  next_none = free_elim m h c f (λ r. word r.0 s NUMBER ≡ 0) (λ _. whole) (λ _ _. whole)
      (λ _ k. word-slot m₁ h.last NUMBER s s NUMBER (omega arith) some (omega arith) (omega arith) (λ e. last_apart (sym e)) ∙ whole)
    where
      whole : word m₁ s NUMBER ≡ 0
      whole = slot-number m s (65536 + bits) 0 some room

  old-next : (t : ℕ) → In t fs → t ≢ h.last → word m' t NUMBER ≡ word m t NUMBER
  old-next t i n = free-word m h c f t NUMBER (positive t i) (omega arith) (apart t i) (λ e _. n e)

  abbrev Joined : List ℕ × Header → Type 0
  Joined r = (h' ≡ r.1) → (m' ≡ r.0) → Queue m' h' (fs ++ joins c)

  pub queue-freed : Queue m' h' (fs ++ joins c)
  queue-freed = free_elim m h c f Joined spent one more refl refl
    where
      spent : stamp_of c ≡ 32767 → h' ≡ h → m' ≡ m₁ → Queue m' h' (fs ++ joins c)
      spent e eh em = simp (eq-eqb (stamp_of c) 32767 e, append-nil fs) (rw eh (record {
        begins = q.begins;
        linked = still fs q.linked (λ t i. free-number t i);
        distinct = q.distinct;
        within = old-within;
        unspent = old-unspent;
        ends = q.ends;
      }))
        where
          free-number : (t : ℕ) → In t fs → word m' t NUMBER ≡ word m t NUMBER
          free-number t i =
              ap (λ (z : List ℕ). word z t NUMBER) em ∙ slot-other m s (65536 + bits) 0 t NUMBER some (positive t i) (omega arith) (apart t i)

          still : (gs : List ℕ) → Linked (λ t. word m t NUMBER) gs → ((t : ℕ) → In t gs → word m' t NUMBER ≡ word m t NUMBER)
              → Linked (λ t. word m' t NUMBER) gs
          still [] l k = tt
          still (t ∷ gs) l k = (k t (inl refl) ∙ l.0, still gs l.1 (λ z i. k z (inr i)))

      joined : stamp_of c ≢ 32767 → (first : ℕ) → h' ≡ header h.used first s → first ≡ head_or (fs ++ s ∷ []) 0
          → Linked (λ t. word m' t NUMBER) (fs ++ s ∷ []) → Queue m' h' (fs ++ joins c)
      joined n first eh b l = simp (ne_eqb (stamp_of c) 32767 n) (rw eh (record {
        begins = b;
        linked = l;
        distinct = distinct;
        within = all_more _ fs s old-within new-within;
        unspent = all_more (Unspent m') fs s old-unspent (new-unspent n);
        ends = sym (last_more 0 fs s);
      }))

      one : stamp_of c ≢ 32767 → h.last ≡ 0 → h' ≡ header h.used s s → m' ≡ m₁ → Queue m' h' (fs ++ joins c)
      one n z eh em = joined n s eh (ap (λ (gs : List ℕ). head_or (gs ++ s ∷ []) 0) (sym empty)) (subst (λ (gs : List ℕ). Linked (λ t. word m' t NUMBER) (gs ++ s ∷ [])) (sym empty) (next_none, tt))
        where
          empty : fs ≡ []
          empty = none_last _ (λ t w. let a = w.0 in λ e. omega arith) fs q.within (sym q.ends ∙ z)

      more : stamp_of c ≢ 32767 → h.last ≢ 0 → h' ≡ header h.used h.first s → m' ≡ m₂ → Queue m' h' (fs ++ joins c)
      more n k eh em = joined n h.first eh (first fs q.begins q.ends) (linked fs q.ends q.distinct q.linked (λ t i. i))
        where
          last-next : word m' h.last NUMBER ≡ s
          last-next =
              let b = f.2 in let r = f.1 in
              ap (λ (z : List ℕ). word z h.last NUMBER) em
              ∙ word_same m₁ h.last NUMBER s (rw (length-slot_at m s (65536 + bits) 0) (omega arith)) (omega arith) (omega arith)

          first : (gs : List ℕ) → h.first ≡ head_or gs 0 → h.last ≡ last_or 0 gs → h.first ≡ head_or (gs ++ s ∷ []) 0
          first [] b e = absurd (k e)
          first (t ∷ gs) b e = b

          linked : (gs : List ℕ) → h.last ≡ last_or 0 gs → NoDup gs → Linked (λ t. word m t NUMBER) gs → ((t : ℕ) → In t gs → In t fs)
              → Linked (λ t. word m' t NUMBER) (gs ++ s ∷ [])
          linked [] e nd l i = absurd (k e)
          linked (a ∷ gs) e nd l i =
              linked-more (λ t. word m t NUMBER) (λ t. word m' t NUMBER) s a gs nd l (λ t j n'. old-next t (i t j) (λ z. n' (z ∙ e)))
              (ap (λ (t : ℕ). word m' t NUMBER) (sym e) ∙ last-next) next_none

  -- other nodes keep their numbers, since the last of the chain is no node
  number-kept : (y : ℕ) → Found m h.used y → y ≢ c → word m' (slot_of y) NUMBER ≡ word m (slot_of y) NUMBER
  number-kept y g n = free-word m h c f (slot_of y) NUMBER g.from (omega arith) (other-slot m h c f y g n) (λ e _. by (last_in 0 fs) e)
    where
      by : (last_or 0 fs ≡ 0) ⊎ In (last_or 0 fs) fs → slot_of y ≡ h.last → ⊥
      by (inl z) e = let p = g.from in let k : h.last ≡ 0 = q.ends ∙ z in omega arith
      by (inr i) e =
          let w = all_in _ fs q.within (last_or 0 fs) i in
          let a : stamp_of (word m (last_or 0 fs) STAMP) ≡ stamp_of y =
          ap (λ (z : ℕ). stamp_of (word m z STAMP)) (sym (e ∙ q.ends)) ∙ g.stamp in
          let b : 32768 ≤ stamp_of (word m (last_or 0 fs) STAMP) = w.2.0 in let d = g.small in omega arith

  pub gone-freed : Gone m h (c ∷ []) m' h'
  gone-freed = record {
    used = free-used m h c f;
    size = free-length m h c f;
    were = λ y t. only y t;
    found = λ y. let w = found-freed m h c f y in (λ g. ((w.0 g).0, ((w.0 g).1, tt)), λ p. w.1 (p.0, p.1.0));
    stamps = λ y t. stamp y t;
    others = λ t p n. stamp-same m h c f t p (λ e. n c (inl refl) (sym e));
    numbers = λ y g o. number-kept y g o.0;
  }
    where
      only : (y : ℕ) → In y (c ∷ []) → Found m h.used y
      only y (inl e) = rw e f.0
      only y (inr x') = elim x' [ ]

      stamp : (y : ℕ) → In y (c ∷ []) → word m' (slot_of y) STAMP ≡ 65536 + removed_bits (stamp_of y)
      stamp y (inl e) = rw e (free-stamp m h c f)
      stamp y (inr x') = elim x' [ ]
