-- Links are sound exactly when each live node passes the tests that look at it and its neighbours, and predecessors come to an end.
-- `leads` is the one test that the definition does not list: it follows, and with it every live node has one predecessor.
use Rattle.std.specs.Prelude.{◌≡◌, refl, ◌≢◌, ◌⊎◌, ◌↔◌, ℕ}
use Rattle.std.proofs.Common.{sym, ap, ◌∙◌, subst, inl, inr}
use Rattle.std.proofs.Math.Path.{path_j}
use mathlib.Core.HLevel.{¬_prop}
use Rattle.std.proofs.Math.Decide.{ℕ_discrete}
use Rattle.std.proofs.Math.Nat.{ℕ_set}
use Rattle.rules.specs.Links.{Link, par, prv, nxt, fst, lst, View}
use Rattle.rules.specs.Sound.{Reach, start, to-child, to-next, OnChain, here, along, SoundLinks}
use Rattle.forest.specs.View.{or_else, or_left}
use Rattle.follow.specs.Follow.{Ends, stop, step}
use Rattle.forest.specs.Found.{Nodes}

-- what a look at each live node tests
pub record Local (v : View) (live : ℕ → Type 0) : Type 0 where
  pub found : (x : ℕ) → live x → (k : Link) → v k x ≢ 0 → live (v k x)
  pub both : (x : ℕ) → live x → (v fst x ≡ 0) ↔ (v lst x ≡ 0)
  pub first : (x : ℕ) → live x → v fst x ≢ 0 → (v par (v fst x) ≡ x) × (v prv (v fst x) ≡ 0)
  pub last : (x : ℕ) → live x → v lst x ≢ 0 → (v par (v lst x) ≡ x) × (v nxt (v lst x) ≡ 0)
  pub after : (x : ℕ) → live x → v nxt x ≢ 0 → (v prv (v nxt x) ≡ x) × (v par (v nxt x) ≡ v par x)
  pub before : (x : ℕ) → live x → v prv x ≢ 0 → v nxt (v prv x) ≡ x
  pub leads : (x : ℕ) → live x → v prv x ≡ 0 → v par x ≢ 0 → v fst (v par x) ≡ x

-- the predecessor: previous sibling, else parent
abbrev pub pred : View → ℕ → ℕ
pred v x = or_else (v prv x) (v par x)

pub pred-previous : (v : View) (x : ℕ) → v prv x ≢ 0 → pred v x ≡ v prv x
pred-previous v x h = or_left (v prv x) (v par x) h

pub pred-parent : (v : View) (x : ℕ) → v prv x ≡ 0 → pred v x ≡ v par x
pred-parent v x e = ap (λ (a : ℕ). or_else a (v par x)) e

pub pred-live : (v : View) (live : ℕ → Type 0) → Local v live → (x : ℕ) → live x → (pred v x ≡ 0) ⊎ live (pred v x)
pred-live v live T x l = go (ℕ_discrete (v prv x) 0) (ℕ_discrete (v par x) 0)
  where
    go : Dec (v prv x ≡ 0) → Dec (v par x ≡ 0) → (pred v x ≡ 0) ⊎ live (pred v x)
    go (no h) d = inr (rw (pred-previous v x h) (T.found x l prv h))
    go (yes e) (yes e') = inl (pred-parent v x e ∙ e')
    go (yes e) (no h) = inr (rw (pred-parent v x e) (T.found x l par h))

module _ (v : View) (live : ℕ → Type 0) (N : Nodes live) where
  -- ---- the tests, and predecessors end: sound
  module _ (T : Local v live) where
    exists : (x : ℕ) → live x → Ends (pred v) x → Reach v live x
    exists x l stop = absurd (N.some 0 l refl)
    exists x l (step h r) = go (λ l'. exists (pred v x) l' r) (ℕ_discrete (v prv x) 0) (ℕ_discrete (v par x) 0)
      where
        go : (live (pred v x) → Reach v live (pred v x)) → Dec (v prv x ≡ 0) → Dec (v par x ≡ 0) → Reach v live x
        go ih (no hp) d = let e = pred-previous v x hp in to-next (rw e at (ih (rw e (T.found x l prv hp)))) (T.before x l hp) h
        go ih (yes ep) (no hq) = let e = pred-parent v x ep in to-child (rw e at (ih (rw e (T.found x l par hq)))) (T.leads x l ep hq) h
        go ih (yes ep) (yes eq) = start l eq ep

    -- what a route's last step says
    reach_live : {x : ℕ} → Reach v live x → live x
    reach_live (start l a b) = l
    reach_live (to-child r e h) = subst live e (T.found _ (reach_live r) fst (λ q. h (sym e ∙ q)))
    reach_live (to-next r e h) = subst live e (T.found _ (reach_live r) nxt (λ q. h (sym e ∙ q)))

    child-says : {p x : ℕ} → Reach v live p → v fst p ≡ x → x ≢ 0 → (v par x ≡ p) × (v prv x ≡ 0)
    child-says {p} {x} r e h = subst (λ (z : ℕ). (v par z ≡ p) × (v prv z ≡ 0)) e (T.first p (reach_live r) (λ q. h (sym e ∙ q)))

    next-says : {p x : ℕ} → Reach v live p → v nxt p ≡ x → x ≢ 0 → v prv x ≡ p
    next-says {p} {x} r e h = subst (λ (z : ℕ). v prv z ≡ p) e (T.after p (reach_live r) (λ q. h (sym e ∙ q))).0

    child-path : {p x : ℕ} (r : Reach v live p) (e : v fst p ≡ x) (h : x ≢ 0) → ((s : Reach v live p) → r ≡ s)
        → {p' : ℕ} → p ≡ p' → (r' : Reach v live p') (e' : v fst p' ≡ x) (h' : x ≢ 0) → ◌≡◌ {A = Reach v live x} (to-child r e h) (to-child r' e' h')
    child-path {p} {x} r e h ih q =
        path_j (λ (z : ℕ) (_ : p ≡ z). (r' : Reach v live z) (e' : v fst z ≡ x) (h' : x ≢ 0) → ◌≡◌ {A = Reach v live x} (to-child r e h) (to-child r' e' h'))
        (λ r' e' h' i. to-child (ih r' i) (ℕ_set _ _ e e' i) (¬_prop h h' i)) q

    next-path : {p x : ℕ} (r : Reach v live p) (e : v nxt p ≡ x) (h : x ≢ 0) → ((s : Reach v live p) → r ≡ s)
        → {p' : ℕ} → p ≡ p' → (r' : Reach v live p') (e' : v nxt p' ≡ x) (h' : x ≢ 0) → ◌≡◌ {A = Reach v live x} (to-next r e h) (to-next r' e' h')
    next-path {p} {x} r e h ih q =
        path_j (λ (z : ℕ) (_ : p ≡ z). (r' : Reach v live z) (e' : v nxt z ≡ x) (h' : x ≢ 0) → ◌≡◌ {A = Reach v live x} (to-next r e h) (to-next r' e' h'))
        (λ r' e' h' i. to-next (ih r' i) (ℕ_set _ _ e e' i) (¬_prop h h' i)) q

    unique : {x : ℕ} (r s : Reach v live x) → r ≡ s
    unique (start l a b) (start l' a' b') = λ i. start (N.prop _ l l' i) (ℕ_set _ _ a a' i) (ℕ_set _ _ b b' i)
    unique (start l a b) (to-child r e h) = absurd (N.some _ (reach_live r) (sym (child-says r e h).0 ∙ a))
    unique (start l a b) (to-next r e h) = absurd (N.some _ (reach_live r) (sym (next-says r e h) ∙ b))
    unique (to-child r e h) (start l a b) = absurd (N.some _ (reach_live r) (sym (child-says r e h).0 ∙ a))
    unique (to-child r e h) (to-child r' e' h') = child-path r e h (unique r) (sym (child-says r e h).0 ∙ (child-says r' e' h').0) r' e' h'
    unique (to-child r e h) (to-next r' e' h') = absurd (N.some _ (reach_live r') (sym (next-says r' e' h') ∙ (child-says r e h).1))
    unique (to-next r e h) (start l a b) = absurd (N.some _ (reach_live r) (sym (next-says r e h) ∙ b))
    unique (to-next r e h) (to-child r' e' h') = absurd (N.some _ (reach_live r) (sym (next-says r e h) ∙ (child-says r' e' h').1))
    unique (to-next r e h) (to-next r' e' h') = next-path r e h (unique r) (sym (next-says r e h) ∙ next-says r' e' h') r' e' h'

    -- a node under x is on x's child chain
    on_chain : (x : ℕ) → x ≢ 0 → (y : ℕ) → live y → v par y ≡ x → Ends (pred v) y → OnChain v (v fst x) y
    on_chain x hx y l e stop = absurd (N.some 0 l refl)
    on_chain x hx y l e (step h r) = go (λ l' e'. on_chain x hx (pred v y) l' e' r) (ℕ_discrete (v prv y) 0)
      where
        go : (live (pred v y) → v par (pred v y) ≡ x → OnChain v (v fst x) (pred v y)) → Dec (v prv y ≡ 0) → OnChain v (v fst x) y
        go ih (yes q) = subst (OnChain v (v fst x)) (ap (v fst) (sym e) ∙ T.leads y l q (λ z. hx (sym e ∙ z))) here
        go ih (no hp) =
            let w = pred-previous v y hp in
            let lq : live (v prv y) = T.found y l prv hp in
            let nq : v nxt (v prv y) ≡ y = T.before y l hp in
            let pq : v par (v prv y) ≡ x = sym (T.after (v prv y) lq (λ z. h (sym nq ∙ z))).1 ∙ ap (v par) nq ∙ e in
            along (rw w at (ih (rw w lq) (rw w pq))) nq h

    chain-named : (x : ℕ) → live x → v fst x ≢ 0 → {y : ℕ} → OnChain v (v fst x) y → live y × (v par y ≡ x)
    chain-named x l h here = (T.found x l fst h, (T.first x l h).0)
    chain-named x l h (along {z} c e hy) =
        let m = chain-named x l h c in
        let hz : v nxt z ≢ 0 = λ q. hy (sym e ∙ q) in
        (subst live e (T.found z m.0 nxt hz), subst (λ (w : ℕ). v par w ≡ x) e ((T.after z m.0 hz).1 ∙ m.1))

    pub tests-sound : ((x : ℕ) → live x → Ends (pred v) x) → SoundLinks v live
    tests-sound en = record {
      found = T.found;
      both = T.both;
      kids = λ x l h. let hl : v lst x ≢ 0 = λ q. h ((T.both x l).1 q) in record {
        no-previous = (T.first x l h).1;
        reaches = on_chain x (N.some x l) (v lst x) (T.found x l lst hl) (T.last x l hl).0 (en (v lst x) (T.found x l lst hl));
        ends = (T.last x l hl).1;
        named = λ y c. (chain-named x l h c).1;
      };
      after = λ x l h. (T.after x l h).0;
      before = T.before;
      share = λ x l h. (T.after x l h).1;
      once = λ x l. (exists x l (en x l), unique);
    }

  -- ---- sound: the tests pass, and predecessors end
  module _ (S : SoundLinks v live) where
    route-live : {x : ℕ} → Reach v live x → live x
    route-live (start l a b) = l
    route-live (to-child r e h) = subst live e (S.found _ (route-live r) fst (λ q. h (sym e ∙ q)))
    route-live (to-next r e h) = subst live e (S.found _ (route-live r) nxt (λ q. h (sym e ∙ q)))

    by-child : {p x : ℕ} → Reach v live p → v fst p ≡ x → x ≢ 0 → (v par x ≡ p) × (v prv x ≡ 0)
    by-child {p} {x} r e h =
        let hf : v fst p ≢ 0 = λ q. h (sym e ∙ q) in
        let k = S.kids p (route-live r) hf in
        subst (λ (z : ℕ). (v par z ≡ p) × (v prv z ≡ 0)) e (k.named (v fst p) here, k.no-previous)

    by_next : {p x : ℕ} → Reach v live p → v nxt p ≡ x → x ≢ 0 → v prv x ≡ p
    by_next {p} {x} r e h = subst (λ (z : ℕ). v prv z ≡ p) e (S.after p (route-live r) (λ q. h (sym e ∙ q)))

    reach-ends : {x : ℕ} → Reach v live x → Ends (pred v) x
    reach-ends {x} (start l a b) = step (N.some x l) (rw (pred-parent v x b ∙ a) stop)
    reach-ends {x} (to-child r e h) = let s = by-child r e h in step h (rw (pred-parent v x s.1 ∙ s.0) (reach-ends r))
    reach-ends {x} (to-next {q} r e h) =
        let s = by_next r e h in
        step h (rw (pred-previous v x (λ z. N.some q (route-live r) (sym s ∙ z)) ∙ s) (reach-ends r))

    pub sound-ends : (x : ℕ) → live x → Ends (pred v) x
    sound-ends x l = reach-ends (S.once x l).0

    leads_of : {x : ℕ} → Reach v live x → v prv x ≡ 0 → v par x ≢ 0 → v fst (v par x) ≡ x
    leads_of (start l a b) ep hq = absurd (hq a)
    leads_of (to-child r e h) ep hq = ap (v fst) (by-child r e h).0 ∙ e
    leads_of (to-next {q} r e h) ep hq = absurd (N.some q (route-live r) (sym (by_next r e h) ∙ ep))

    pub sound-tests : Local v live
    sound-tests = record {
      found = S.found;
      both = S.both;
      first = λ x l h. let k = S.kids x l h in (k.named (v fst x) here, k.no-previous);
      last = λ x l h. let k = S.kids x l (λ q. h ((S.both x l).0 q)) in (k.named (v lst x) k.reaches, k.ends);
      after = λ x l h. (S.after x l h, S.share x l h);
      before = S.before;
      leads = λ x l. leads_of (S.once x l).0;
    }
