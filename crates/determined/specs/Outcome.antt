-- An outcome of a function: its result, and what is left in everything that was lent to it to be written. A statement determines it where any
-- two outcomes that it allows, for the same arguments, are equal. Excluded: a statement silent on scratch, or on the header of a refusal.
use Rattle.std.specs.Prelude.{◌≡◌, List, ℕ}
use Rattle.std.proofs.Common.{sym, ap, ◌∙◌}
use borrow.Fn.Kind.{ParamKind, ResultKind}
use borrow.Fn.Kinds.{Out, Dens, res_t, ended_of}
use denote.Triple.Clauses.{Lasts, at_exit}
use contract.Lifetimes.{Lfts}

-- A function by its parameters ps and its result r, as the toolchain reads them off its signature; κs are its lifetimes, a its arguments.
module _ {n : ℕ} (ps : List (ParamKind n)) (r : ResultKind n) where
  -- What is answered, and what is left in each `&mut`, one for each parameter in order; nothing for a parameter that is no `&mut`.
  abbrev pub Outcome : (κs : Lfts n) → Dens κs ps → Type 0
  Outcome κs a = (res_t r κs).Denot × Lasts (ended_of n ps r) κs a

  -- The statement allows this outcome: `told` is all that the statement tells a caller of the result and of the arguments at the end.
  abbrev pub Allows : Out n ps r → (κs : Lfts n) (a : Dens κs ps) → Outcome κs a → Type 0
  Allows told κs a x = told κs a x.0 (at_exit (ended_of n ps r) κs a x.1)

  -- Any two outcomes that it allows are equal, also where its caller does not keep to what it asks.
  abbrev pub OneOutcome : Out n ps r → Type 0
  OneOutcome told = (κs : Lfts n) (a : Dens κs ps) (x y : Outcome κs a) → Allows told κs a x → Allows told κs a y → x ≡ y

  -- The same of outcomes in which each array has the length of its type.
  abbrev pub OneSized : ((κs : Lfts n) (a : Dens κs ps) → Outcome κs a → Type 0) → Out n ps r → Type 0
  OneSized sized told =
      (κs : Lfts n) (a : Dens κs ps) (x y : Outcome κs a) → sized κs a x → sized κs a y
      → Allows told κs a x → Allows told κs a y → x ≡ y

  -- Where a statement leaves something open (docs/EXCEPTIONS.md): any two outcomes agree in what `seen` sees of them.
  abbrev pub OneSeen : (X : Type 0) → ((κs : Lfts n) (a : Dens κs ps) → Outcome κs a → X) → Out n ps r → Type 0
  OneSeen X seen told =
      (κs : Lfts n) (a : Dens κs ps) (x y : Outcome κs a) → Allows told κs a x → Allows told κs a y → seen κs a x ≡ seen κs a y

-- Two equations with one value: nearly every statement is one.
pub one_value : {A B : Type 0} (f : A → B) {x y m : A} → x ≡ m → y ≡ m → f x ≡ f y
one_value f e d = ap f (e ∙ sym d)

-- Two pairs of equations.
pub two-values : {A B C : Type 0} (f : A → B → C) {x y m : A} {u v n : B} → x ≡ m → y ≡ m → u ≡ n → v ≡ n → f x u ≡ f y v
two-values f {y = y} {u = u} e d g h = ap (λ t. f t u) (e ∙ sym d) ∙ ap (λ t. f y t) (g ∙ sym h)

-- Statements on what is handed back as numbers (`reply_of`, `answer_kept` ..), which tell any two values apart: alone, behind what is left in one
-- place that was lent, behind two, and behind three.
module _ {A R B : Type 0} (view : R → B) (one : (r s : R) → view r ≡ view s → r ≡ s) where
  pub one_view : (f : R → A) {r s : R} {m : B} → view r ≡ m → view s ≡ m → f r ≡ f s
  one_view f {r} {s} e d = ap f (one r s (e ∙ sym d))

  pub one_left : {W : Type 0} (f : W → R → A) {v w : W} {r s : R} {m : W × B} → (v, view r) ≡ m → (w, view s) ≡ m → f v r ≡ f w s
  one_left {W} f {v} {w} {r} {s} e d =
      let same : (v, view r) ≡ (w, view s) = e ∙ sym d in
      let left : v ≡ w = ap (λ (p : W × B). p.0) same in
      let told : r ≡ s = one r s (ap (λ (p : W × B). p.1) same) in
      λ i. f (left i) (told i)

  pub one-two_left : {V W : Type 0} (f : V → W → R → A) {v v' : V} {w w' : W} {r s : R} {m : V × W × B}
      → (v, w, view r) ≡ m → (v', w', view s) ≡ m → f v w r ≡ f v' w' s
  one-two_left {V} {W} f {v} {v'} {w} {w'} {r} {s} e d =
      let same : (v, w, view r) ≡ (v', w', view s) = e ∙ sym d in
      let first : v ≡ v' = ap (λ (p : V × W × B). p.0) same in
      let second : w ≡ w' = ap (λ (p : V × W × B). p.1) same in
      let told : r ≡ s = one r s (ap (λ (p : V × W × B). p.2) same) in
      λ i. f (first i) (second i) (told i)

  pub one-three_left : {U V W : Type 0} (f : U → V → W → R → A) {u u' : U} {v v' : V} {w w' : W} {r s : R} {m : U × V × W × B}
      → (u, v, w, view r) ≡ m → (u', v', w', view s) ≡ m → f u v w r ≡ f u' v' w' s
  one-three_left {U} {V} {W} f {u} {u'} {v} {v'} {w} {w'} {r} {s} e d =
      let same : (u, v, w, view r) ≡ (u', v', w', view s) = e ∙ sym d in
      let first : u ≡ u' = ap (λ (p : U × V × W × B). p.0) same in
      let second : v ≡ v' = ap (λ (p : U × V × W × B). p.1) same in
      let third : w ≡ w' = ap (λ (p : U × V × W × B). p.2) same in
      let told : r ≡ s = one r s (ap (λ (p : U × V × W × B). p.3) same) in
      λ i. f (first i) (second i) (third i) (told i)
