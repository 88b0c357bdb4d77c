-- A forest as its chains of siblings, when links hold one, and the edits of chains that document 01's changes are made of.
-- Excluded: links where a node stands in two chains; a removed node's children put behind its later siblings.
use Rattle.std.specs.Prelude.{◌≡◌, ◌≢◌, List, [], ◌∷◌, ◌++◌, ℕ}
use Rattle.std.proofs.Math.Logic.{ite}
use Rattle.std.proofs.Math.Decide.{ℕ_discrete}
use Rattle.rules.specs.Lists.{head_or, last_or, In, NoDup}
use Rattle.rules.specs.Links.{par, prv, nxt, fst, lst, View}

-- A chain is the children of a node, or a chain of roots under a number that means nothing.
pub data Key : Type 0 where
  children : ℕ → Key
  roots : ℕ → Key
  deriving Discrete as Key-Dec

-- The parent that all on a chain name.
abbrev pub owner : Key → ℕ
owner (children p) = p
owner (roots j) = 0

-- The members of each chain, in order.
abbrev pub Forest : Type 0
Forest = Key → List ℕ

-- Members xs in order under the parent o, by the three functions parent, previous and next; b is before the first, e after the last.
abbrev pub Segment : (ℕ → ℕ) → (ℕ → ℕ) → (ℕ → ℕ) → ℕ → ℕ → List ℕ → ℕ → Type 0
Segment p q n o b [] e = Unit {0}
Segment p q n o b (x ∷ xs) e = (p x ≡ o) × (q x ≡ b) × (n x ≡ head_or xs e) × Segment p q n o x xs e

-- The links hold the whole chain xs under o; where o is a node, its first and last child are the chain's ends.
pub record Chain (v : View) (o : ℕ) (xs : List ℕ) : Type 0 where
  pub segment : Segment (v par) (v prv) (v nxt) o 0 xs 0
  pub first : o ≢ 0 → v fst o ≡ head_or xs 0
  pub last : o ≢ 0 → v lst o ≡ last_or 0 xs

-- A chain of children needs its parent.
abbrev pub OwnerIn : (ℕ → Type 0) → Key → Type 0
OwnerIn live (children p) = live p
OwnerIn live (roots j) = Unit {0}

-- Each live node stands in one chain, once, and nothing else stands in any. Nothing is said about links.
pub record Members (live : ℕ → Type 0) (F : Forest) : Type 0 where
  pub home : ℕ → Key
  pub member : (k : Key) (y : ℕ) → In y (F k) → live y × (k ≡ home y) × OwnerIn live k
  pub placed : (y : ℕ) → live y → In y (F (home y))
  pub distinct : (k : Key) → NoDup (F k)
  pub some : (y : ℕ) → live y → y ≢ 0

abbrev pub Chains : View → (ℕ → Type 0) → Forest → Type 0
Chains v live F = (k : Key) → OwnerIn live k → Chain v (owner k) (F k)

-- The links v of the live nodes hold the forest F.
pub record Holds (v : View) (live : ℕ → Type 0) (F : Forest) : Type 0 where
  pub members : Members live F
  pub chains : Chains v live F

-- F, with the members xs at k.
unfoldable pub put : Forest → Key → List ℕ → Forest
put F k xs k' = ite (Key-Dec ℕ_discrete k' k) xs (F k')

-- x, which stood between ls and rs at k, becomes a chain of one.
abbrev pub detached : Forest → Key → List ℕ → ℕ → List ℕ → ℕ → Forest
detached F k ls x rs j = put (put F k (ls ++ rs)) (roots j) (x ∷ [])

-- All of the chain i, which is ms, goes between ls and rs at k.
abbrev pub moved : Forest → Key → List ℕ → List ℕ → List ℕ → Key → Forest
moved F k ls ms rs i = put (put F k (ls ++ (ms ++ rs))) i []

-- The nodes xs go: none of them has children left, and the chain i, which is of them, is empty.
abbrev pub dropped : Forest → List ℕ → Key → Forest
dropped F [] i = put F i []
dropped F (x ∷ xs) i = put (dropped F xs i) (children x) []
