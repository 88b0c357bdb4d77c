-- The rule of `remove` as an edit of chains: a node taken out and alone, its children in its place, then the node gone, is the
-- forest in which the children stand in its place. Nothing here is about links.
use Rattle.std.specs.Prelude.{◌≡◌, refl, ◌≢◌, List, [], ◌∷◌, ◌++◌, ℕ}
use Rattle.std.proofs.Common.{sym, ap, ◌∙◌, arith}
use Rattle.std.proofs.Math.Decide.{ℕ_discrete}
use Rattle.rules.specs.Forest.{Key, children, roots, Key-Dec, Forest, put, detached, moved, dropped}
use Rattle.forest.specs.Members.{put_same, put_elim}

pub keys-apart : (p j : ℕ) → children p ≢ roots j
keys-apart p j q = let z : ◌≡◌ {A = ℕ} 0 1 = cc in omega arith

pub put_other : (F : Forest) (k : Key) (xs : List ℕ) (k' : Key) → k' ≢ k → put F k xs k' ≡ F k'
put_other F k xs k' = put_elim (λ z ys. z ≢ k → ys ≡ F z) F k xs (λ n. absurd (n refl)) (λ z _ _. refl) k'

-- The node out of its chain and alone, its children in its place, the node gone: the children stand in its place.
module _ (F : Forest) (k : Key) (ls : List ℕ) (x : ℕ) (rs : List ℕ) (j : ℕ) (free : F (roots j) ≡ []) (kj : k ≢ roots j) (ki : k ≢ children x) (ms : List ℕ) where
  abbrev out : Forest
  out = detached F k ls x rs j

  abbrev inside : Forest
  inside = moved out k ls ms rs (children x)

  abbrev rule : Forest
  rule = moved F k ls ms rs (children x)

  pub out_at : out k ≡ ls ++ rs
  out_at = put_other (put F k (ls ++ rs)) (roots j) (x ∷ []) k kj ∙ put_same F k (ls ++ rs)

  pub out-other : (k' : Key) → k' ≢ k → k' ≢ roots j → out k' ≡ F k'
  out-other k' a b = put_other (put F k (ls ++ rs)) (roots j) (x ∷ []) k' b ∙ put_other F k (ls ++ rs) k' a

  pub inside-alone : inside (roots j) ≡ x ∷ []
  inside-alone =
      put_other (put out k (ls ++ (ms ++ rs))) (children x) [] (roots j) (λ q. keys-apart x j (sym q))
      ∙ put_other out k (ls ++ (ms ++ rs)) (roots j) (λ q. kj (sym q)) ∙ put_same (put F k (ls ++ rs)) (roots j) (x ∷ [])

  pub is-rule : (k' : Key) → dropped inside (x ∷ []) (roots j) k' ≡ rule k'
  is-rule k' = go (Key-Dec ℕ_discrete k' (children x)) (Key-Dec ℕ_discrete k' (roots j)) (Key-Dec ℕ_discrete k' k)
    where
      last : k' ≢ children x → rule k' ≡ put F k (ls ++ (ms ++ rs)) k'
      last n = put_other (put F k (ls ++ (ms ++ rs))) (children x) [] k' n

      step : k' ≢ children x → k' ≢ roots j → dropped inside (x ∷ []) (roots j) k' ≡ put out k (ls ++ (ms ++ rs)) k'
      step n r =
          put_other (put inside (roots j) []) (children x) [] k' n ∙ put_other inside (roots j) [] k' r
          ∙ put_other (put out k (ls ++ (ms ++ rs))) (children x) [] k' n

      go : Dec (k' ≡ children x) → Dec (k' ≡ roots j) → Dec (k' ≡ k) → dropped inside (x ∷ []) (roots j) k' ≡ rule k'
      go (yes q) b c = rw q (put_same (put inside (roots j) []) (children x) [] ∙ sym (put_same (put F k (ls ++ (ms ++ rs))) (children x) []))
      go (no n) (yes q) c =
          put_other (put inside (roots j) []) (children x) [] k' n ∙ ap (put inside (roots j) []) q ∙ put_same inside (roots j) []
          ∙ sym (last n ∙ put_other F k (ls ++ (ms ++ rs)) k' (λ z. kj (sym z ∙ q)) ∙ ap F q ∙ free)
      go (no n) (no r) (yes q) =
          step n r ∙ ap (put out k (ls ++ (ms ++ rs))) q ∙ put_same out k (ls ++ (ms ++ rs))
          ∙ sym (last n ∙ ap (put F k (ls ++ (ms ++ rs))) q ∙ put_same F k (ls ++ (ms ++ rs)))
      go (no n) (no r) (no z) =
          step n r ∙ put_other out k (ls ++ (ms ++ rs)) k' z ∙ out-other k' z r ∙ sym (last n ∙ put_other F k (ls ++ (ms ++ rs)) k' z)
