-- What stands around a found node of sound memory: its neighbours and its parent are other nodes, and its parent has children.
-- From the forest that sound memory holds, cut at the node.
use Rattle.std.specs.Prelude.{◌≡◌, refl, ◌≢◌, ◌⊎◌, List, [], ◌∷◌, ◌++◌, ℕ, ◌*◌, ◌≤◌, length}
use Rattle.std.proofs.Common.{sym, ap, ◌∙◌, subst, inl, inr, arith}
use Rattle.link.specs.Ids.{slot_of}
use Rattle.link.specs.Words.{width, PARENT, PREVIOUS, NEXT, FIRST, LAST, link}
use Rattle.link.specs.Found.{Found}
use Rattle.link.specs.declared.header.Header.{Header}
use Rattle.rules.specs.Lists.{head_or, last_or, In, Off, NoDup}
use Rattle.rules.specs.Links.{Link, par, view}
use Rattle.rules.specs.Sound.{here, Sound}
use Rattle.follow.specs.Follow.{Ends, stop, step}
use Rattle.forest.specs.Lists.{last_in, head_in, off-before, off-not_in, nodup-right}
use Rattle.forest.specs.Found.{found_one, found_some, found-nodes}
use Rattle.forest.specs.Places.{Place, place}
use Rattle.forest.specs.Siblings.{none_or}
use Rattle.forest.specs.Surgery.{NoneOr}
use Rattle.forest.specs.Whole.{forest_of, sound_forested, no_cycle}
use Rattle.splice.specs.Splice.{Within, NoneOrWithin}

head-some : (ls : List ℕ) (x : ℕ) (rs : List ℕ) → Off 0 (ls ++ x ∷ rs) → head_or (ls ++ x ∷ rs) 0 ≢ 0
head-some [] x rs h e = h.0 (sym e)
head-some (a ∷ ls) x rs h e = h.0 (sym e)

not_fixed : (f : ℕ → ℕ) {y : ℕ} → Ends f y → y ≢ 0 → f y ≡ y → ⊥
not_fixed f stop n e = n refl
not_fixed f (step h r) n e = not_fixed f r (λ z. n (sym e ∙ z)) (ap f e)

-- A found node lies within the memory, which the slots in use fit.
pub inside : (m : List ℕ) (used : ℕ) → used * width ≤ length m → (x : ℕ) → Found m used x → Within m x
inside m used room x f = let a = f.from in let b = f.upto in (omega arith, omega arith)

pub none_inside : (m : List ℕ) (used : ℕ) → used * width ≤ length m → (x : ℕ) → NoneOr (Found m used) x → NoneOrWithin m x
none_inside m used room x (inl e) = inl e
none_inside m used room x (inr f) = inr (inside m used room x f)

-- Two found nodes that differ have different slots.
pub apart : (m : List ℕ) (used x y : ℕ) → Found m used x → y ≢ x → NoneOr (Found m used) y → y ≢ 0 → slot_of y ≡ slot_of x → ⊥
apart m used x y f n (inl z) i e = i z
apart m used x y f n (inr g) i e = n (found_one m used y x g f e)

module _ (m : List ℕ) (h : Header) (S : Sound m h) where
  abbrev live : ℕ → Type 0
  live = Found m h.used

  pub link-live : (x : ℕ) → live x → (k : Link) → NoneOr live (view m k x)
  link-live = none_or (view m) live (found-nodes m h.used) S.links

  -- Where there is a first child there is a last one, and the other way round; both name their parent.
  pub last_too : (x : ℕ) → live x → link m x FIRST ≢ 0 → link m x LAST ≢ 0
  last_too x f n z = n ((S.links.both x f).1 z)

  pub first_too : (x : ℕ) → live x → link m x LAST ≢ 0 → link m x FIRST ≢ 0
  first_too x f n z = n ((S.links.both x f).0 z)

  pub first-parent : (x : ℕ) → live x → link m x FIRST ≢ 0 → link m (link m x FIRST) PARENT ≡ x
  first-parent x f n = (S.links.kids x f n).named (link m x FIRST) here

  pub last-parent : (x : ℕ) → live x → link m x LAST ≢ 0 → link m (link m x LAST) PARENT ≡ x
  last-parent x f n = let c = S.links.kids x f (first_too x f n) in c.named (link m x LAST) c.reaches

  module _ (x : ℕ) (f : live x) where
    P : Place (view m) live (forest_of m h S) (sound_forested m h S) x
    P = place (view m) live (forest_of m h S) (sound_forested m h S) x f

    distinct : NoDup (P.left ++ x ∷ P.right)
    distinct = subst NoDup P.is ((sound_forested m h S).members.distinct P.key)

    -- the neighbours and the parent are others
    not-member : (y : ℕ) (xs : List ℕ) → (y ≡ 0) ⊎ In y xs → Off x xs → y ≢ x
    not-member y xs (inl z) o e = found_some m h.used x f (sym e ∙ z)
    not-member y xs (inr i) o e = off-not_in x xs o (subst (λ (w : ℕ). In w xs) e i)

    pub previous-other : link m x PREVIOUS ≢ x
    previous-other e =
        not-member (last_or 0 P.left) P.left (last_in 0 P.left) (off-before P.left P.right x distinct) (sym P.before ∙ e)

    pub next-other : link m x NEXT ≢ x
    next-other e =
        not-member (head_or P.right 0) P.right (head_in P.right) (nodup-right P.left (x ∷ P.right) distinct).0 (sym P.after ∙ e)

    pub parent-other : link m x PARENT ≢ x
    parent-other = not_fixed (view m par) (no_cycle m h S x f) (found_some m h.used x f)

    -- the parent has children
    pub parent-first : link m x PARENT ≢ 0 → link m (link m x PARENT) FIRST ≢ 0
    parent-first n z =
        head-some P.left x P.right P.some
        (ap (λ (xs : List ℕ). head_or xs 0) (sym P.is)
        ∙ sym (((sound_forested m h S).chains P.key P.ok).first (λ e. n (P.parent ∙ e)))
        ∙ ap (λ (y : ℕ). link m y FIRST) (sym P.parent) ∙ z)

    pub parent-last : link m x PARENT ≢ 0 → link m (link m x PARENT) LAST ≢ 0
    parent-last n = last_too (link m x PARENT) (S.links.found x f par n) (parent-first n)
