-- A header or a census behind a pointer is its words, where the array has the length of its type.
use Rattle.std.specs.Prelude.{◌≡◌, refl, List, [], ◌∷◌, ℕ, length}
use Rattle.std.proofs.Common.{sym, ap, ◌∙◌, arith}
use Rattle.link.specs.declared.header.Header.{Header}
use Rattle.arena.specs.declared.census.Census.{Census}
use Rattle.lift_c.specs.Face.{header_of, census_of}

abbrev words_of : Header → List ℕ
words_of h = h.used ∷ h.first ∷ h.last ∷ []

three : (v : List ℕ) → length v ≡ 3 → words_of (header_of v) ≡ v
three [] e = absurd (omega arith)
three (a ∷ []) e = absurd (omega arith)
three (a ∷ b ∷ []) e = absurd (omega arith)
three (a ∷ b ∷ c ∷ []) e = refl
three (a ∷ b ∷ c ∷ d ∷ v) e = absurd (omega arith)

abbrev counts_of : Census → List ℕ
counts_of c = c.live ∷ c.free ∷ c.spent ∷ c.fresh ∷ []

four : (v : List ℕ) → length v ≡ 4 → counts_of (census_of v) ≡ v
four [] e = absurd (omega arith)
four (a ∷ []) e = absurd (omega arith)
four (a ∷ b ∷ []) e = absurd (omega arith)
four (a ∷ b ∷ c ∷ []) e = absurd (omega arith)
four (a ∷ b ∷ c ∷ d ∷ []) e = refl
four (a ∷ b ∷ c ∷ d ∷ f ∷ v) e = absurd (omega arith)

-- An outcome g of an array and the rest, whose array is a header of the rest.
pub with-header : {A B : Type 0} (g : List ℕ → A → B) (h : A → Header) {v w : List ℕ} {a b m : A}
    → length v ≡ 3 → length w ≡ 3 → a ≡ m → b ≡ m → header_of v ≡ h a → header_of w ≡ h b → g v a ≡ g w b
with-header g h {v} {w} {a} {b} lv lw p q e d =
    let same : a ≡ b = p ∙ sym q in
    let heads : header_of v ≡ header_of w = e ∙ ap h same ∙ sym d in
    let words : v ≡ w = sym (three v lv) ∙ ap words_of heads ∙ three w lw in
    λ i. g (words i) (same i)

-- A census.
pub with-census : {A B : Type 0} (g : List ℕ → A → B) (h : A → Census) {v w : List ℕ} {a b m : A}
    → length v ≡ 4 → length w ≡ 4 → a ≡ m → b ≡ m → census_of v ≡ h a → census_of w ≡ h b → g v a ≡ g w b
with-census g h {v} {w} {a} {b} lv lw p q e d =
    let same : a ≡ b = p ∙ sym q in
    let heads : census_of v ≡ census_of w = e ∙ ap h same ∙ sym d in
    let words : v ≡ w = sym (four v lv) ∙ ap counts_of heads ∙ four w lw in
    λ i. g (words i) (same i)
