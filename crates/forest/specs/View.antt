-- A change of one link of one node, and the two changes that surgery is made of: making two nodes neighbours under a parent, and
-- taking a node out of its chain. A write to none changes a view at 0, where it is read for no node.
use Rattle.std.specs.Prelude.{◌≡◌, refl, ◌≢◌, Bool, true, false, ℕ, zero, suc, eqb}
use Rattle.follow.specs.Point.{at}
use Rattle.rules.specs.Links.{Link, par, prv, nxt, fst, lst, word_of, View}

abbrev pub pick : Bool → (ℕ → ℕ) → (ℕ → ℕ) → ℕ → ℕ
pick true f g = f
pick false f g = g

-- v, with a as the link k of x
abbrev pub upd : View → Link → ℕ → ℕ → View
upd v k x a k' = pick (eqb (word_of k') (word_of k)) (at (v k') x a) (v k')

-- two views agree at live nodes
abbrev pub SameOn : (ℕ → Type 0) → View → View → Type 0
SameOn live v w = (k : Link) (y : ℕ) → live y → v k y ≡ w k y

-- a where it is not none, else b
abbrev pub or_else : ℕ → ℕ → ℕ
or_else zero b = b
or_else (suc a) b = suc a

pub or_left : (a b : ℕ) → a ≢ 0 → or_else a b ≡ a
or_left zero b h = absurd (h refl)
or_left (suc a) b h = refl

-- the first child after p and n became neighbours, where it was f: n where nothing comes before it, p where there was none
abbrev pub first_of : ℕ → ℕ → ℕ → ℕ
first_of zero n f = n
first_of (suc p) n f = or_else f (suc p)

pub first_of-keep : (p n a : ℕ) → p ≢ 0 → a ≢ 0 → first_of p n a ≡ a
first_of-keep zero n a h k = absurd (h refl)
first_of-keep (suc p) n a h k = or_left a (suc p) k

-- p and n become neighbours under o
unfoldable pub connect : View → ℕ → ℕ → ℕ → View
connect v o p n = upd (upd (upd (upd v nxt p n) prv n p) fst o (first_of p n (v fst o))) lst o (first_of n p (v lst o))

-- x, between p and n under o, becomes a chain of one
abbrev pub detach_at : View → ℕ → ℕ → ℕ → ℕ → View
detach_at v x o p n = upd (connect (upd (upd v prv x 0) nxt x 0) o p n) par x 0

-- the same, with neighbours and parent read from the links
unfoldable pub detach : View → ℕ → View
detach v x = detach_at v x (v par x) (v prv x) (v nxt x)

-- only x's own parent changes
pub detach_par : (v : View) (x z : ℕ) → detach v x par z ≡ at (v par) x 0 z
unfolding detach connect
detach_par v x z = refl
