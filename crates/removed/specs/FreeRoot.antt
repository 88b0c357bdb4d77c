-- In any forest that memory holds some root chain is empty: each that is not has a found node of its own, and found nodes are few.
use Rattle.std.specs.Prelude.{◌≡◌, refl, ◌⊎◌, List, [], ◌∷◌, ℕ, zero, suc, ◌<◌, length}
use Rattle.std.proofs.Common.{sym, ap, ◌∙◌, inl, inr, arith}
use Rattle.link.specs.Found.{Found}
use Rattle.link.specs.declared.header.Header.{Header}
use Rattle.rules.specs.Lists.{In, NoDup, All}
use Rattle.rules.specs.Forest.{roots, Forest}
use Rattle.forest.specs.Lists.{all_map, all_in, not_in_off}
use Rattle.forest.specs.Bound.{found-few}
use Rattle.forest.specs.Whole.{Forested}

roots_one : (i j : ℕ) → roots i ≡ roots j → i ≡ j
roots_one i j e = cc

module _ (m : List ℕ) (h : Header) (F : Forest) (H : Forested m h F) where
  -- n nodes, one from each of the first n root chains
  record Heads (n : ℕ) : Type 0 where
    nodes : List ℕ
    count : length nodes ≡ n
    lives : All (Found m h.used) nodes
    once : NoDup nodes
    homes : All (λ y. (i : ℕ) × (i < n) × (H.members.home y ≡ roots i)) nodes

  heads : (n : ℕ) → ((j : ℕ) × (F (roots j) ≡ [])) ⊎ Heads n
  heads zero = inr (record { nodes = []; count = refl; lives = tt; once = tt; homes = tt })
  heads (suc n) = go (heads n) (F (roots n)) refl
    where
      go : ((j : ℕ) × (F (roots j) ≡ [])) ⊎ Heads n → (xs : List ℕ) → F (roots n) ≡ xs → ((j : ℕ) × (F (roots j) ≡ [])) ⊎ Heads (suc n)
      go (inl w) xs e = inl w
      go (inr w) [] e = inl (n, e)
      go (inr w) (y ∷ ys) e = inr (record {
        nodes = y ∷ w.nodes;
        count = ap suc w.count;
        lives = (at.0, w.lives);
        once = (not_in_off y w.nodes apart, w.once);
        homes = ((n, omega arith, sym at.1), all_map _ _ (λ z p. (p.0, (let l = p.1 in omega arith), p.2)) w.nodes w.homes);
      })
        where
          at : Found m h.used y × (roots n ≡ H.members.home y) × Unit {0}
          at = H.members.member (roots n) y (rw e (inl refl))

          apart : In y w.nodes → ⊥
          apart t =
              let p = all_in _ w.nodes w.homes y t in
              let q = roots_one n p.0 (at.1 ∙ p.2) in let l = p.1 in omega arith

  pub free-root : (j : ℕ) × (F (roots j) ≡ [])
  free-root = go (heads (suc h.used))
    where
      go : ((j : ℕ) × (F (roots j) ≡ [])) ⊎ Heads (suc h.used) → (j : ℕ) × (F (roots j) ≡ [])
      go (inl w) = w
      go (inr w) = let l = found-few m h.used w.nodes w.lives w.once in let c = w.count in absurd (omega arith)
