-- One event more at the end: what holds since an event, what was handed out, how often a slot was. By the definitions.
use Rattle.std.specs.Prelude.{◌≡◌, refl, ◌⊎◌, ◌↔◌, List, [], ◌∷◌, ◌++◌, ℕ, ◌+◌, eqb}
use Rattle.std.proofs.Common.{sym, ap, ◌∙◌, inl, inr, append-nil, append_assoc, arith}
use Rattle.link.specs.Ids.{slot_of}
use Rattle.arena.specs.Census.{one_if}
use Rattle.history.specs.Calls.{Memory, Call, Program}
use Rattle.history.specs.History.{Event, event, after, history, Each, Since, handed_by, handed, times_of}

-- What happened in the first calls does not depend on those that come after.
pub history-then : (p : Program) (w : Memory) (cs ds : List Call) → history p w (cs ++ ds) ≡ history p w cs ++ history p (after p w cs) ds
history-then p w [] ds = refl
history-then p w (c ∷ cs) ds = ap (λ (es : List Event). event p w c ∷ es) (history-then p (p c w).0 cs ds)

pub each_more : (Q : Event → Type 0) (es : List Event) (e : Event) → Each Q (es ++ e ∷ []) ↔ (Each Q es × Q e)
each_more Q [] e = (λ w. (tt, w.0), λ w. (w.1, tt))
each_more Q (d ∷ es) e =
    let r = each_more Q es e in
    (λ w. ((w.0, (r.0 w.1).0), (r.0 w.1).1), λ w. (w.0.0, r.1 (w.0.1, w.1)))

-- The event is the last, or it was before and the last is such.
pub since-more : (P Q : Event → Type 0) (es : List Event) (e : Event) → Since P Q (es ++ e ∷ []) ↔ (P e ⊎ (Since P Q es × Q e))
since-more P Q [] e = (to, from)
  where
    to : (P e × Unit {0}) ⊎ ⊥ → P e ⊎ (⊥ × Q e)
    to (inl p) = inl p.0
    to (inr x') = elim x' [ ]

    from : P e ⊎ (⊥ × Q e) → (P e × Unit {0}) ⊎ ⊥
    from (inl p) = inl (p, tt)
    from (inr n) = absurd n.0
since-more P Q (d ∷ es) e = (to (since-more P Q es e), from (since-more P Q es e))
  where
    wider : P e ⊎ (Since P Q es × Q e) → P e ⊎ (Since P Q (d ∷ es) × Q e)
    wider (inl p) = inl p
    wider (inr w) = inr (inr w.0, w.1)

    to : Since P Q (es ++ e ∷ []) ↔ (P e ⊎ (Since P Q es × Q e)) → Since P Q ((d ∷ es) ++ e ∷ []) → P e ⊎ (Since P Q (d ∷ es) × Q e)
    to r (inl w) = let q = (each_more Q es e).0 w.1 in inr (inl (w.0, q.0), q.1)
    to r (inr s) = wider (r.0 s)

    from : Since P Q (es ++ e ∷ []) ↔ (P e ⊎ (Since P Q es × Q e)) → P e ⊎ (Since P Q (d ∷ es) × Q e) → Since P Q ((d ∷ es) ++ e ∷ [])
    from r (inl p) = inr (r.1 (inl p))
    from r (inr (inl w, q)) = inl (w.0, (each_more Q es e).1 (w.1, q))
    from r (inr (inr s, q)) = inr (r.1 (inr (s, q)))

pub handed-more : (es : List Event) (e : Event) → handed (es ++ e ∷ []) ≡ handed es ++ handed_by e.call e.told
handed-more [] e = append-nil (handed_by e.call e.told)
handed-more (d ∷ es) e =
    ap (λ (l : List ℕ). handed_by d.call d.told ++ l) (handed-more es e)
    ∙ sym (append_assoc (handed_by d.call d.told) (handed es) (handed_by e.call e.told))

pub times-append : (s : ℕ) (xs ys : List ℕ) → times_of s (xs ++ ys) ≡ times_of s xs + times_of s ys
times-append s [] ys = omega arith
times-append s (x ∷ xs) ys = let e = times-append s xs ys in let a = one_if (eqb (slot_of x) s) in omega arith
