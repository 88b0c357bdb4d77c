-- Unlinking, on any chain of distinct slots in use: the chain after it is the one before without its spent slots, each of which then has
-- no next; every other word is as it was. From one slot taken off, by the length of the chain.
use Rattle.std.specs.Prelude.{◌≡◌, refl, ◌≢◌, ◌⊎◌, Bool, true, false, cond, List, [], ◌∷◌, ◌++◌, ℕ, zero, suc, ◌*◌, ◌≤◌, ◌<◌, eqb, length}
use Rattle.std.proofs.Common.{sym, ap, ◌∙◌, subst, inl, inr, append_assoc, append-nil, arith, eqb-true, ne_eqb, le-ltb}
use Rattle.std.proofs.lemmas.Bool.{eqb-false}
use Rattle.link.specs.Ids.{stamp_of}
use Rattle.link.specs.Words.{width, STAMP, NUMBER, word, set_word}
use Rattle.link.specs.WordLaws.{word_same, word-slot, word-other, length-set_word}
use Rattle.link.specs.declared.header.Header.{Header}
use Rattle.rules.specs.Lists.{head_or, last_or, In, Off, NoDup, All}
use Rattle.rules.specs.Sound.{Linked}
use Rattle.forest.specs.Lists.{last-append, in_left, in_right, off-left, off-right, off-append, off-not_in, not_in_off, off-last, nodup-right, nodup-out, off-before, all_in, all_of, in-wider, last_in, last_some}
use Rattle.image.specs.Unlink.{bypassed, unlink_run}
use Rattle.image.specs.UnlinkLaws.{length-bypassed}
use Rattle.imaged.specs.Chains.{linked_at, linked-same, linked-out, unspent_of, unspent-same}

abbrev pub next : List ℕ → ℕ → ℕ
next m s = word m s NUMBER

-- One slot taken off: what its words and the others' are then.
record Off-chain (m m₁ : List ℕ) (before x : ℕ) : Type 0 where
  words : (s k : ℕ) → k < width → k ≢ NUMBER → word m₁ s k ≡ word m s k
  off : word m₁ x NUMBER ≡ 0
  far : (s : ℕ) → 1 ≤ s → s ≢ x → s ≢ before → word m₁ s NUMBER ≡ word m s NUMBER
  past : before ≢ 0 → before ≢ x → word m₁ before NUMBER ≡ word m x NUMBER

taken_off : (m : List ℕ) (first before x : ℕ) → 1 ≤ x → x * width ≤ length m → before * width ≤ length m
    → Off-chain m (bypassed m first before x (word m x NUMBER)).0 before x
unfolding bypassed
taken_off m first before x one room room' = by (eqb before 0) refl
  where
    after : List ℕ
    after = set_word m before NUMBER (word m x NUMBER)

    R : Bool → List ℕ × ℕ
    R t = cond t (set_word m x NUMBER 0, word m x NUMBER) (set_word after x NUMBER 0, first)

    by : (t : Bool) → eqb before 0 ≡ t → Off-chain m (R t).0 before x
    by true e = record {
      words = λ s k a n. word-other m x NUMBER 0 s k (omega arith) a n;
      off = word_same m x NUMBER 0 room (omega arith) (omega arith);
      far = λ s a n _. word-slot m x NUMBER 0 s NUMBER (omega arith) (omega arith) (omega arith) (omega arith) n;
      past = λ z _. absurd (z (eqb-true before 0 e));
    }
    by false e =
        let z = eqb-false before 0 e in
        let room'' : x * width ≤ length after = rw (length-set_word m before NUMBER (word m x NUMBER)) room in
        record {
          words = λ s k a n. word-other after x NUMBER 0 s k (omega arith) a n ∙ word-other m before NUMBER (word m x NUMBER) s k (omega arith) a n;
          off = word_same after x NUMBER 0 room'' (omega arith) (omega arith);
          far = λ s a n b.
              word-slot after x NUMBER 0 s NUMBER (omega arith) (omega arith) (omega arith) (omega arith) n
              ∙ word-slot m before NUMBER (word m x NUMBER) s NUMBER (omega arith) (omega arith) (omega arith) (omega arith) b;
          past = λ _ n.
              word-slot after x NUMBER 0 before NUMBER (omega arith) (omega arith) (omega arith) (omega arith) n
              ∙ word_same m before NUMBER (word m x NUMBER) room' (omega arith) (omega arith);
        }

-- What unlinking the slots gs, behind those of ls that stay, leaves.
pub record Unlinks (m m' : List ℕ) (ls gs : List ℕ) (h : Header) : Type 0 where
  pub begins : h.first ≡ head_or (ls ++ unspent_of m gs) 0
  pub linked : Linked (λ s. word m' s NUMBER) (ls ++ unspent_of m gs)
  pub ends : h.last ≡ last_or 0 (ls ++ unspent_of m gs)
  pub words : (s k : ℕ) → k < width → k ≢ NUMBER → word m' s k ≡ word m s k
  pub others : (s : ℕ) → 1 ≤ s → Off s (ls ++ gs) → word m' s NUMBER ≡ word m s NUMBER
  pub none : (s : ℕ) → In s gs → stamp_of (word m s STAMP) ≡ 32768 → word m' s NUMBER ≡ 0

-- Slots in use that lead from one to the next: ls stay, gs are still to be looked at.
pub record Ahead (m : List ℕ) (used : ℕ) (ls gs : List ℕ) : Type 0 where
  pub leads : Linked (next m) (ls ++ gs)
  pub distinct : NoDup (ls ++ gs)
  pub within : All (λ s. (1 ≤ s) × (s ≤ used)) (ls ++ gs)

module _ (m : List ℕ) (used : ℕ) (ls : List ℕ) (g : ℕ) (gs : List ℕ) (A : Ahead m used ls (g ∷ gs)) where
  here : (1 ≤ g) × (g ≤ used)
  here = all_in (λ s. (1 ≤ s) × (s ≤ used)) (ls ++ g ∷ gs) A.within g (in_right g ls (g ∷ gs) (inl refl))

  inside : (s : ℕ) → In s (ls ++ gs) → (1 ≤ s) × (s ≤ used)
  inside s t = all_in (λ s. (1 ≤ s) × (s ≤ used)) (ls ++ g ∷ gs) A.within s (in-wider s ls gs g t)

  elsewhere : Off g (ls ++ gs)
  elsewhere = off-append g ls gs (off-before ls gs g A.distinct) (nodup-right ls (g ∷ gs) A.distinct).0

  apart : (s : ℕ) → In s (ls ++ gs) → s ≢ g
  apart s t e = off-not_in g (ls ++ gs) elsewhere (subst (λ (z : ℕ). In z (ls ++ gs)) e t)

-- The slots without one that was taken off still lead from one to the next.
step-leads : (m m₁ : List ℕ) (used : ℕ) (ls : List ℕ) (g : ℕ) (gs : List ℕ) → Ahead m used ls (g ∷ gs) → Off-chain m m₁ (last_or 0 ls) g
    → Linked (next m₁) (ls ++ gs)
step-leads m m₁ used [] g gs A O =
    linked-same (next m) (next m₁) gs
    (λ s t. let a = (inside m used [] g gs A s t).0 in O.far s a (apart m used [] g gs A s t) (λ (z : s ≡ 0). omega arith)) A.leads.1
step-leads m m₁ used (y ∷ ys) g gs A O =
    linked-out (next m) (next m₁) y ys g gs A.distinct
    (λ s t n. O.far s (inside m used (y ∷ ys) g gs A s t).0 (apart m used (y ∷ ys) g gs A s t) n)
    (O.past (last_some y ys some) (λ e. off-last g y ys (off-before (y ∷ ys) gs g A.distinct) (sym e))) A.leads
  where
    some : Off 0 (y ∷ ys)
    some = not_in_off 0 (y ∷ ys) (λ t. let a = (inside m used (y ∷ ys) g gs A 0 (in_left 0 (y ∷ ys) gs t)).0 in omega arith)

step-first : (m : List ℕ) (used : ℕ) (ls : List ℕ) (g : ℕ) (gs : List ℕ) → Ahead m used ls (g ∷ gs)
    → (bypassed m (head_or (ls ++ g ∷ gs) 0) (last_or 0 ls) g (word m g NUMBER)).1 ≡ head_or (ls ++ gs) 0
unfolding bypassed
step-first m used [] g gs A = A.leads.0
step-first m used (y ∷ ys) g gs A = rw (ne_eqb (last_or y ys) 0 (last_some y ys some))
  where
    some : Off 0 (y ∷ ys)
    some = not_in_off 0 (y ∷ ys) (λ t. let a = (inside m used (y ∷ ys) g gs A 0 (in_left 0 (y ∷ ys) gs t)).0 in omega arith)

last_within : (m : List ℕ) (used : ℕ) (ls gs : List ℕ) → Ahead m used ls gs → last_or 0 ls ≤ used
last_within m used ls gs A = by (last_in 0 ls)
  where
    by : (last_or 0 ls ≡ 0) ⊎ In (last_or 0 ls) ls → last_or 0 ls ≤ used
    by (inl e) = omega arith
    by (inr t) = (all_in (λ s. (1 ≤ s) × (s ≤ used)) (ls ++ gs) A.within (last_or 0 ls) (in_left (last_or 0 ls) ls gs t)).1

step_ahead : (m m₁ : List ℕ) (used : ℕ) (ls : List ℕ) (g : ℕ) (gs : List ℕ) → Ahead m used ls (g ∷ gs) → Off-chain m m₁ (last_or 0 ls) g → Ahead m₁ used ls gs
step_ahead m m₁ used ls g gs A O = record {
  leads = step-leads m m₁ used ls g gs A O;
  distinct = nodup-out ls gs g A.distinct;
  within = all_of (λ s. (1 ≤ s) × (s ≤ used)) (ls ++ gs) (inside m used ls g gs A);
}

spent-more : (m m₁ m' : List ℕ) (used : ℕ) (ls : List ℕ) (g : ℕ) (gs : List ℕ) (h : Header) → Ahead m used ls (g ∷ gs) → Off-chain m m₁ (last_or 0 ls) g
    → eqb (stamp_of (word m g STAMP)) 32768 ≡ true → Unlinks m₁ m' ls gs h → Unlinks m m' ls (g ∷ gs) h
unfolding unspent_of
spent-more m m₁ m' used ls g gs h A O spent U =
    let stamps : ((s : ℕ) → word m₁ s STAMP ≡ word m s STAMP) = (λ s. O.words s STAMP (omega arith) (λ (e : STAMP ≡ NUMBER). omega arith)) in
    let same : unspent_of m₁ gs ≡ unspent_of m (g ∷ gs) = unspent-same m m₁ stamps gs ∙ sym (rw spent) in
    record {
      begins = rw (sym same) U.begins;
      linked = rw (sym same) U.linked;
      ends = rw (sym same) U.ends;
      words = λ s k a n. U.words s k a n ∙ O.words s k a n;
      others = λ s a o.
          U.others s a (off-out s o) ∙ O.far s a (λ e. (off-right s ls (g ∷ gs) o).0 e) (λ e. at_last s a o e);
      none = λ s t q. by s t q;
    }
  where
    off-out : (s : ℕ) → Off s (ls ++ g ∷ gs) → Off s (ls ++ gs)
    off-out s o = off-append s ls gs (off-left s ls (g ∷ gs) o) (off-right s ls (g ∷ gs) o).1

    at_last : (s : ℕ) → 1 ≤ s → Off s (ls ++ g ∷ gs) → s ≡ last_or 0 ls → ⊥
    at_last s a o e = go (last_in 0 ls)
      where
        go : (last_or 0 ls ≡ 0) ⊎ In (last_or 0 ls) ls → ⊥
        go (inl z) = omega arith
        go (inr t) = off-not_in s ls (off-left s ls (g ∷ gs) o) (subst (λ (z : ℕ). In z ls) (sym e) t)

    by : (s : ℕ) → In s (g ∷ gs) → stamp_of (word m s STAMP) ≡ 32768 → word m' s NUMBER ≡ 0
    by s (inl e) q = ap (λ (z : ℕ). word m' z NUMBER) e ∙ U.others g (here m used ls g gs A).0 (elsewhere m used ls g gs A) ∙ O.off
    by s (inr t) q = U.none s t (ap stamp_of (O.words s STAMP (omega arith) (λ (e : STAMP ≡ NUMBER). omega arith)) ∙ q)

kept_more : (m m' : List ℕ) (ls : List ℕ) (g : ℕ) (gs : List ℕ) (h : Header) → eqb (stamp_of (word m g STAMP)) 32768 ≡ false
    → Unlinks m m' (ls ++ (g ∷ [])) gs h → Unlinks m m' ls (g ∷ gs) h
unfolding unspent_of
kept_more m m' ls g gs h kept U =
    let same : (ls ++ (g ∷ [])) ++ unspent_of m gs ≡ ls ++ unspent_of m (g ∷ gs) = append_assoc ls (g ∷ []) (unspent_of m gs) ∙ sym (rw kept) in
    record {
      begins = rw (sym same) U.begins;
      linked = rw (sym same) U.linked;
      ends = rw (sym same) U.ends;
      words = U.words;
      others = λ s a o. U.others s a (rw (append_assoc ls (g ∷ []) gs) o);
      none = λ s t q. by s t q;
    }
  where
    by : (s : ℕ) → In s (g ∷ gs) → stamp_of (word m s STAMP) ≡ 32768 → word m' s NUMBER ≡ 0
    by s (inl e) q = absurd (eqb-false (stamp_of (word m g STAMP)) 32768 kept (ap (λ (z : ℕ). stamp_of (word m z STAMP)) (sym e) ∙ q))
    by s (inr t) q = U.none s t q

kept_ahead : (m : List ℕ) (used : ℕ) (ls : List ℕ) (g : ℕ) (gs : List ℕ) → Ahead m used ls (g ∷ gs) → Ahead m used (ls ++ (g ∷ [])) gs
kept_ahead m used ls g gs A =
    let e = append_assoc ls (g ∷ []) gs in
    record { leads = rw e A.leads; distinct = rw e A.distinct; within = rw e A.within }

pub unlinks : (n : ℕ) (m : List ℕ) (used : ℕ) (ls gs : List ℕ) → length gs < n → used * width ≤ length m → Ahead m used ls gs
    → Unlinks m (unlink_run n m used (head_or (ls ++ gs) 0) (last_or 0 ls) (head_or gs 0)).0 ls gs (unlink_run n m used (head_or (ls ++ gs) 0) (last_or 0 ls) (head_or gs 0)).1
unfolding unlink_run unspent_of
unlinks zero m used ls gs few room A = absurd (omega arith)
unlinks (suc n) m used ls [] few room A = record {
  begins = refl;
  linked = A.leads;
  ends = ap (last_or 0) (sym (append-nil ls));
  words = λ s k a o. refl;
  others = λ s a o. refl;
  none = λ s t q. absurd t;
}
unlinks (suc n) m used ls (g ∷ gs) few room A =
    let a = here m used ls g gs A in
    let z = a.0 in
    let u = a.1 in
    let l = last_within m used ls (g ∷ gs) A in
    let O = taken_off m (head_or (ls ++ g ∷ gs) 0) (last_or 0 ls) g z (omega arith) (omega arith) in
    rw (ne_eqb g 0 (λ (e : g ≡ 0). omega arith), le-ltb used g u)
    (by (eqb (stamp_of (word m g STAMP)) 32768) refl O
    (unlinks n B.0 used ls gs (omega arith) (rw (length-bypassed m (head_or (ls ++ g ∷ gs) 0) (last_or 0 ls) g (word m g NUMBER)) room) (step_ahead m B.0 used ls g gs A O))
    (unlinks n m used (ls ++ (g ∷ [])) gs (omega arith) room (kept_ahead m used ls g gs A)))
  where
    B : List ℕ × ℕ
    B = bypassed m (head_or (ls ++ g ∷ gs) 0) (last_or 0 ls) g (word m g NUMBER)

    Goal : List ℕ × Header → Type 0
    Goal r = Unlinks m r.0 ls (g ∷ gs) r.1

    on : head_or gs 0 ≡ word m g NUMBER
    on = sym (linked_at (next m) ls g gs A.leads)

    by : (t : Bool) → eqb (stamp_of (word m g STAMP)) 32768 ≡ t → Off-chain m B.0 (last_or 0 ls) g
        → Unlinks B.0 (unlink_run n B.0 used (head_or (ls ++ gs) 0) (last_or 0 ls) (head_or gs 0)).0 ls gs (unlink_run n B.0 used (head_or (ls ++ gs) 0) (last_or 0 ls) (head_or gs 0)).1
        → Unlinks m (unlink_run n m used (head_or ((ls ++ (g ∷ [])) ++ gs) 0) (last_or 0 (ls ++ (g ∷ []))) (head_or gs 0)).0 (ls ++ (g ∷ [])) gs
        (unlink_run n m used (head_or ((ls ++ (g ∷ [])) ++ gs) 0) (last_or 0 (ls ++ (g ∷ []))) (head_or gs 0)).1
        → Goal (cond t (unlink_run n B.0 used B.1 (last_or 0 ls) (word m g NUMBER)) (unlink_run n m used (head_or (ls ++ g ∷ gs) 0) g (word m g NUMBER)))
    by true e O U W =
        let run : unlink_run n B.0 used (head_or (ls ++ gs) 0) (last_or 0 ls) (head_or gs 0) ≡ unlink_run n B.0 used B.1 (last_or 0 ls) (word m g NUMBER) =
        ap (λ (f : ℕ). unlink_run n B.0 used f (last_or 0 ls) (head_or gs 0)) (sym (step-first m used ls g gs A)) ∙ ap (unlink_run n B.0 used B.1 (last_or 0 ls)) on in
        subst Goal run (spent-more m B.0 _ used ls g gs _ A O e U)
    by false e O U W =
        let run : unlink_run n m used (head_or ((ls ++ (g ∷ [])) ++ gs) 0) (last_or 0 (ls ++ (g ∷ []))) (head_or gs 0) ≡ unlink_run n m used (head_or (ls ++ g ∷ gs) 0) g (word m g NUMBER) =
        ap (λ (xs : List ℕ). unlink_run n m used (head_or xs 0) (last_or 0 (ls ++ (g ∷ []))) (head_or gs 0)) (append_assoc ls (g ∷ []) gs)
        ∙ ap (λ (b : ℕ). unlink_run n m used (head_or (ls ++ g ∷ gs) 0) b (head_or gs 0)) (last-append 0 ls (g ∷ []))
        ∙ ap (unlink_run n m used (head_or (ls ++ g ∷ gs) 0) g) on in
        subst Goal run (kept_more m _ ls g gs _ e W)
