-- Laws of lists of nodes: ends, membership and distinctness of two lists one after the other, of a list with one member out,
-- and of lists without a common member. From the definitions alone.
use Rattle.std.specs.Prelude.{◌≡◌, refl, ◌≢◌, ◌⊎◌, List, [], ◌∷◌, ◌++◌, ℕ}
use Rattle.std.proofs.Common.{sym, ap, subst, inl, inr}
use Rattle.std.proofs.Math.Decide.{ℕ_discrete}
use Rattle.rules.specs.Lists.{head_or, last_or, In, Off, NoDup, All}

-- ---- one list after the other

pub head-append : (ls rs : List ℕ) (e : ℕ) → head_or (ls ++ rs) e ≡ head_or ls (head_or rs e)
head-append [] rs e = refl
head-append (a ∷ ls) rs e = refl

pub last-append : (b : ℕ) (ls rs : List ℕ) → last_or b (ls ++ rs) ≡ last_or (last_or b ls) rs
last-append b [] rs = refl
last-append b (a ∷ ls) rs = last-append a ls rs

pub in_left : (y : ℕ) (ls rs : List ℕ) → In y ls → In y (ls ++ rs)
in_left y (a ∷ ls) rs (inl e) = inl e
in_left y (a ∷ ls) rs (inr h) = inr (in_left y ls rs h)
in_left y [] rs x' = elim x' [ ]

pub in_right : (y : ℕ) (ls rs : List ℕ) → In y rs → In y (ls ++ rs)
in_right y [] rs h = h
in_right y (a ∷ ls) rs h = inr (in_right y ls rs h)

pub in_cases : (y : ℕ) (ls rs : List ℕ) → In y (ls ++ rs) → In y ls ⊎ In y rs
in_cases y [] rs h = inr h
in_cases y (a ∷ ls) rs (inl e) = inl (inl e)
in_cases y (a ∷ ls) rs (inr h) = up (in_cases y ls rs h)
  where
    up : In y ls ⊎ In y rs → In y (a ∷ ls) ⊎ In y rs
    up (inl t) = inl (inr t)
    up (inr t) = inr t

pub off-left : (x : ℕ) (ls rs : List ℕ) → Off x (ls ++ rs) → Off x ls
off-left x [] rs h = tt
off-left x (a ∷ ls) rs h = (h.0, off-left x ls rs h.1)

pub off-right : (x : ℕ) (ls rs : List ℕ) → Off x (ls ++ rs) → Off x rs
off-right x [] rs h = h
off-right x (a ∷ ls) rs h = off-right x ls rs h.1

pub off-append : (x : ℕ) (ls rs : List ℕ) → Off x ls → Off x rs → Off x (ls ++ rs)
off-append x [] rs h k = k
off-append x (a ∷ ls) rs h k = (h.0, off-append x ls rs h.1 k)

pub nodup-left : (ls rs : List ℕ) → NoDup (ls ++ rs) → NoDup ls
nodup-left [] rs h = tt
nodup-left (a ∷ ls) rs h = (off-left a ls rs h.0, nodup-left ls rs h.1)

pub nodup-right : (ls rs : List ℕ) → NoDup (ls ++ rs) → NoDup rs
nodup-right [] rs h = h
nodup-right (a ∷ ls) rs h = nodup-right ls rs h.1

-- ---- members

pub off-not_in : (y : ℕ) (xs : List ℕ) → Off y xs → In y xs → ⊥
off-not_in y (x ∷ xs) h (inl e) = h.0 e
off-not_in y (x ∷ xs) h (inr t) = off-not_in y xs h.1 t
off-not_in y [] h x'' = elim x'' [ ]

pub not_in_off : (y : ℕ) (xs : List ℕ) → (In y xs → ⊥) → Off y xs
not_in_off y [] h = tt
not_in_off y (x ∷ xs) h = (λ e. h (inl e), not_in_off y xs (λ t. h (inr t)))

pub empty_of : (xs : List ℕ) → ((y : ℕ) → In y xs → ⊥) → xs ≡ []
empty_of [] h = refl
empty_of (x ∷ xs) h = absurd (h x (inl refl))

pub in-dec : (y : ℕ) (xs : List ℕ) → Off y xs ⊎ In y xs
in-dec y [] = inl tt
in-dec y (x ∷ xs) = go (ℕ_discrete y x) (in-dec y xs)
  where
    go : Dec (y ≡ x) → Off y xs ⊎ In y xs → Off y (x ∷ xs) ⊎ In y (x ∷ xs)
    go (yes e) d = inr (inl e)
    go (no h) (inl k) = inl (h, k)
    go (no h) (inr t) = inr (inr t)

-- what stands before and behind a member
pub in_split : (y : ℕ) (xs : List ℕ) → In y xs → (ls : List ℕ) × (rs : List ℕ) × (xs ≡ ls ++ y ∷ rs)
in_split y (x ∷ xs) (inl e) = ([], xs, ap (λ (z : ℕ). z ∷ xs) (sym e))
in_split y (x ∷ xs) (inr t) = let (ls, rs, e) = in_split y xs t in (x ∷ ls, rs, ap (λ (zs : List ℕ). x ∷ zs) e)
in_split y [] x' = elim x' [ ]

pub last_in : (b : ℕ) (xs : List ℕ) → (last_or b xs ≡ b) ⊎ In (last_or b xs) xs
last_in b [] = inl refl
last_in b (x ∷ xs) = up (last_in x xs)
  where
    up : (last_or x xs ≡ x) ⊎ In (last_or x xs) xs → (last_or x xs ≡ b) ⊎ In (last_or x xs) (x ∷ xs)
    up (inl e) = inr (inl e)
    up (inr t) = inr (inr t)

pub head_in : (xs : List ℕ) → (head_or xs 0 ≡ 0) ⊎ In (head_or xs 0) xs
head_in [] = inl refl
head_in (x ∷ xs) = inr (inl refl)

pub off-last : (x y : ℕ) (ys : List ℕ) → Off x (y ∷ ys) → x ≢ last_or y ys
off-last x y [] h = h.0
off-last x y (z ∷ ys) h = off-last x z ys h.1

pub last_some : (y : ℕ) (ys : List ℕ) → Off 0 (y ∷ ys) → last_or y ys ≢ 0
last_some y ys h e = off-last 0 y ys h (sym e)

pub all_map : (P Q : ℕ → Type 0) → ((s : ℕ) → P s → Q s) → (fs : List ℕ) → All P fs → All Q fs
all_map P Q h [] a = tt
all_map P Q h (s ∷ fs) a = (h s a.0, all_map P Q h fs a.1)

pub all_of : (P : ℕ → Type 0) (xs : List ℕ) → ((y : ℕ) → In y xs → P y) → All P xs
all_of P [] h = tt
all_of P (x ∷ xs) h = (h x (inl refl), all_of P xs (λ z t. h z (inr t)))

pub all_in : (P : ℕ → Type 0) (xs : List ℕ) → All P xs → (y : ℕ) → In y xs → P y
all_in P (x ∷ xs) h y (inl e) = subst P (sym e) h.0
all_in P (x ∷ xs) h y (inr t) = all_in P xs h.1 y t
all_in P [] h y x'' = elim x'' [ ]

-- ---- one member out

pub in-wider : (y : ℕ) (ls rs : List ℕ) (x : ℕ) → In y (ls ++ rs) → In y (ls ++ x ∷ rs)
in-wider y [] rs x t = inr t
in-wider y (a ∷ ls) rs x (inl q) = inl q
in-wider y (a ∷ ls) rs x (inr t) = inr (in-wider y ls rs x t)

pub in_narrower : (y : ℕ) (ls rs : List ℕ) (x : ℕ) → y ≢ x → In y (ls ++ x ∷ rs) → In y (ls ++ rs)
in_narrower y [] rs x h (inl q) = absurd (h q)
in_narrower y [] rs x h (inr t) = t
in_narrower y (a ∷ ls) rs x h (inl q) = inl q
in_narrower y (a ∷ ls) rs x h (inr t) = inr (in_narrower y ls rs x h t)

pub off-before : (ls rs : List ℕ) (x : ℕ) → NoDup (ls ++ x ∷ rs) → Off x ls
off-before [] rs x h = tt
off-before (a ∷ ls) rs x h = (λ e. (off-right a ls (x ∷ rs) h.0).0 (sym e), off-before ls rs x h.1)

pub nodup-out : (ls rs : List ℕ) (x : ℕ) → NoDup (ls ++ x ∷ rs) → NoDup (ls ++ rs)
nodup-out [] rs x h = h.1
nodup-out (a ∷ ls) rs x h = (off-append a ls rs (off-left a ls (x ∷ rs) h.0) (off-right a ls (x ∷ rs) h.0).1, nodup-out ls rs x h.1)

-- ---- lists without a common member

-- each of ys is no member of xs
abbrev pub Apart : List ℕ → List ℕ → Type 0
Apart ys xs = All (λ y. Off y xs) ys

pub apart_of : (ys xs : List ℕ) → ((y : ℕ) → In y ys → Off y xs) → Apart ys xs
apart_of ys xs = all_of (λ y. Off y xs) ys

pub apart_in : (ys xs : List ℕ) → Apart ys xs → (y : ℕ) → In y ys → Off y xs
apart_in ys xs = all_in (λ y. Off y xs) ys

pub apart-sym : (ys xs : List ℕ) → Apart xs ys → Apart ys xs
apart-sym ys xs h = apart_of ys xs (λ y t. not_in_off y xs (λ u. off-not_in y ys (apart_in xs ys h y u) t))

pub apart-left : (fs gs xs : List ℕ) → Apart (fs ++ gs) xs → Apart fs xs
apart-left fs gs xs h = apart_of fs xs (λ y t. apart_in (fs ++ gs) xs h y (in_left y fs gs t))

pub apart-right : (fs gs xs : List ℕ) → Apart (fs ++ gs) xs → Apart gs xs
apart-right fs gs xs h = apart_of gs xs (λ y t. apart_in (fs ++ gs) xs h y (in_right y fs gs t))

pub apart-append : (ls ms rs : List ℕ) → Apart ls ms → Apart ls rs → Apart ls (ms ++ rs)
apart-append [] ms rs h k = tt
apart-append (x ∷ ls) ms rs h k = (off-append x ms rs h.0 k.0, apart-append ls ms rs h.1 k.1)

pub nodup-apart : (ls rs : List ℕ) → NoDup (ls ++ rs) → Apart ls rs
nodup-apart [] rs h = tt
nodup-apart (a ∷ ls) rs h = (off-right a ls rs h.0, nodup-apart ls rs h.1)

pub nodup_append : (ls rs : List ℕ) → NoDup ls → NoDup rs → Apart ls rs → NoDup (ls ++ rs)
nodup_append [] rs h k a = k
nodup_append (x ∷ ls) rs h k a = (off-append x ls rs h.0 a.0, nodup_append ls rs h.1 k a.1)

-- the ends of a list apart from xs are no members of xs, where none is no member either
pub apart-last : (b : ℕ) (ys xs : List ℕ) → Apart ys xs → Off b xs → Off (last_or b ys) xs
apart-last b [] xs h z = z
apart-last b (y ∷ ys) xs h z = apart-last y ys xs h.1 h.0

pub apart-head : (ys xs : List ℕ) → Apart ys xs → Off 0 xs → Off (head_or ys 0) xs
apart-head [] xs h z = z
apart-head (y ∷ ys) xs h z = h.0
