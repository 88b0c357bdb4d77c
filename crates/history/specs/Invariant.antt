-- What holds after any calls, by one call more at the end: from what each call does. The identifiers handed out are distinct, since a slot's
-- stamps rise; what is found, and with which number, is what the history says.
use Rattle.std.specs.Prelude.{◌≡◌, ◌⊎◌, ◌↔◌, List, [], ◌∷◌, ◌++◌, ℕ, ◌<◌, ◌≤◌, length}
use Rattle.std.proofs.Common.{sym, ap, ◌∙◌, subst, inl, inr, append-nil, append_assoc, arith, eq-eqb}
use Rattle.link.specs.Ids.{slot_of, stamp_of}
use Rattle.rules.specs.Lists.{In, NoDup}
use Rattle.forest.specs.Lists.{in_cases, not_in_off, apart_of, nodup_append}
use Rattle.history.specs.Calls.{Memory, Call, called}
use Rattle.history.specs.History.{Event, event, after, history, Since, FoundIn, handed_by, handed, HandsOut, Takes, Stores, times_of}
use Rattle.history.specs.EventLaws.{since-more, handed-more, times-append}
use Rattle.history.specs.Steps.{Fine, times_in, number_in, StoredNow, KeptNow, Step}

-- Since its creation no call took x; the number n was the last that was stored for x.
abbrev pub Held : ℕ → List Event → Type 0
Held x = Since (HandsOut x) (λ e. Takes x e → ⊥)

abbrev pub LastStored : ℕ → ℕ → List Event → Type 0
LastStored x n = Since (Stores x n) (λ e. (k : ℕ) → Stores x k e → ⊥)

pub record Good (size : ℕ) (w : Memory) (es : List Event) : Type 0 where
  pub fine : Fine w
  pub long : length w.words ≡ size
  pub once : NoDup (handed es)
  pub times : (s : ℕ) → 0 < s → times_of s (handed es) ≡ times_in w s
  pub past : (x : ℕ) → In x (handed es) → (0 < slot_of x) × (stamp_of x < times_in w (slot_of x))
  pub found : (x : ℕ) → FoundIn w x ↔ Held x es
  pub number : (x : ℕ) → FoundIn w x → (n : ℕ) → (number_in w x ≡ n) ↔ LastStored x n es

-- an identifier counts for its slot
in-times : (x : ℕ) (xs : List ℕ) → In x xs → 1 ≤ times_of (slot_of x) xs
in-times x (y ∷ ys) (inl e) = simp (eq-eqb (slot_of y) (slot_of x) (ap slot_of (sym e))) (omega arith)
in-times x (y ∷ ys) (inr t) = let a = in-times x ys t in omega arith
in-times x [] x'' = elim x'' [ ]

module _ (size : ℕ) (w : Memory) (es : List Event) (G : Good size w es) (c : Call) (S : Step w c (called c w)) where
  abbrev e : Event
  e = event called w c

  abbrev w' : Memory
  w' = (called c w).0

  abbrev new : List ℕ
  new = handed_by e.call e.told

  old-new : (x : ℕ) → In x (handed es) → In x new → ⊥
  old-new x i j = let a = (G.past x i).1 in let b = (S.stamps x j).1 in omega arith

  more-past : (x : ℕ) → In x (handed es) ⊎ In x new → (0 < slot_of x) × (stamp_of x < times_in w' (slot_of x))
  more-past x (inl i) = let p = G.past x i in let t = S.times (slot_of x) p.0 in let q = p.1 in (p.0, omega arith)
  more-past x (inr i) =
      let p = S.stamps x i in
      let t = S.times (slot_of x) p.0 in
      let q = p.1 in
      let a = in-times x new i in
      (p.0, omega arith)

  more-found : (x : ℕ) → FoundIn w' x ↔ Held x (es ++ e ∷ [])
  more-found x = (λ f. s.1 (to ((S.found x).0 f)), λ h. (S.found x).1 (from (s.0 h)))
    where
      s : Held x (es ++ e ∷ []) ↔ (HandsOut x e ⊎ (Held x es × (Takes x e → ⊥)))
      s = since-more (HandsOut x) (λ e. Takes x e → ⊥) es e

      to : In x new ⊎ (FoundIn w x × (Takes x e → ⊥)) → HandsOut x e ⊎ (Held x es × (Takes x e → ⊥))
      to (inl i) = inl i
      to (inr q) = inr ((G.found x).0 q.0, q.1)

      from : HandsOut x e ⊎ (Held x es × (Takes x e → ⊥)) → In x new ⊎ (FoundIn w x × (Takes x e → ⊥))
      from (inl i) = inl i
      from (inr q) = inr ((G.found x).1 q.0, q.1)

  more-number : (x : ℕ) → FoundIn w' x → (n : ℕ) → (number_in w' x ≡ n) ↔ LastStored x n (es ++ e ∷ [])
  more-number x f n = by (S.number x f)
    where
      s : LastStored x n (es ++ e ∷ []) ↔ (Stores x n e ⊎ (LastStored x n es × ((k : ℕ) → Stores x k e → ⊥)))
      s = since-more (Stores x n) (λ e. (k : ℕ) → Stores x k e → ⊥) es e

      by : StoredNow w c e.told w' x ⊎ KeptNow w c e.told w' x → (number_in w' x ≡ n) ↔ LastStored x n (es ++ e ∷ [])
      by (inl q) = (λ p. s.1 (inl (subst (λ (k : ℕ). Stores x k e) p q.is)), λ l. from (s.0 l))
        where
          from : Stores x n e ⊎ (LastStored x n es × ((k : ℕ) → Stores x k e → ⊥)) → number_in w' x ≡ n
          from (inl t) = q.only n t
          from (inr t) = absurd (t.1 (number_in w' x) q.is)
      by (inr q) = (λ p. s.1 (inr ((G.number x q.was n).0 (sym q.same ∙ p), q.none)), λ l. from (s.0 l))
        where
          from : Stores x n e ⊎ (LastStored x n es × ((k : ℕ) → Stores x k e → ⊥)) → number_in w' x ≡ n
          from (inl t) = absurd (q.none n t)
          from (inr t) = q.same ∙ (G.number x q.was n).1 t.0

  pub good_more : Good size w' (es ++ e ∷ [])
  good_more = record {
    fine = S.fine;
    long = S.size ∙ G.long;
    once = subst NoDup (sym (handed-more es e))
        (nodup_append (handed es) new G.once S.single (apart_of (handed es) new (λ x i. not_in_off x new (old-new x i))));
    times = λ s p.
        ap (times_of s) (handed-more es e) ∙ times-append s (handed es) new
        ∙ (let a = G.times s p in let b = S.times s p in omega arith);
    past = λ x i. more-past x (in_cases x (handed es) new (subst (In x) (handed-more es e) i));
    found = more-found;
    number = more-number;
  }

module _ (step : (w : Memory) → Fine w → (c : Call) → Step w c (called c w)) (size : ℕ) where
  pub good-run : (cs : List Call) (w : Memory) (es : List Event) → Good size w es → Good size (after called w cs) (es ++ history called w cs)
  good-run [] w es G = subst (Good size w) (sym (append-nil es)) G
  good-run (c ∷ cs) w es G =
      subst (Good size (after called (called c w).0 cs)) (append_assoc es (event called w c ∷ []) (history called (called c w).0 cs))
      (good-run cs (called c w).0 (es ++ event called w c ∷ []) (good_more size w es G c (step w G.fine c)))
