-- The children of a node put to where it stood, on words: naming them their parent changes only parents, taking them out changes no
-- other node's ends, so they are tied in as the definition of `removal` joins them.
use Rattle.std.specs.Prelude.{Bool, true, false, cond, ◌≢◌, ◌≡◌, ℕ, zero, suc, ◌<◌, ◌≤◌, eqb, length, Result, Ok, Err}
use Rattle.std.proofs.Math.Path.{refl}
use Rattle.std.proofs.Common.{sym, ◌∙◌, subst, arith}
use mathlib.Core.List.{List}
use Rattle.std.proofs.Math.Decide.{ℕ_discrete}
use borrow.Author.Tests.{eq-eqb, ne_eqb}
use Rattle.link.specs.Ids.{slot_of}
use Rattle.link.specs.Words.{width, PARENT, PREVIOUS, NEXT, FIRST, LAST, link, set_link}
use Rattle.link.specs.WordLaws.{link-other, set_link_none}
use Rattle.link.proofs.OnlyLaws.{only_rewrite, only-detach}
use Rattle.link.specs.Relations.{first_after, last_after, connect_neighbors}
use Rattle.link.specs.Siblings.{detach_range, rewrite_parents, joined, transplanted}
use Rattle.link.specs.declared.siblings_range.ConsistencyError.{ConsistencyError}
use Rattle.link.specs.declared.siblings_range.ConsistencyError.TheVariants.{ParentChildLoop}
use Rattle.removal.specs.Remove as model
use Rattle.splice.specs.Splice.{Within}
use Rattle.splice.specs.Hoist.{childless, tied, hoisted_in}
use Rattle.splice.specs.Writes.{as_is, keeps}
use Rattle.splice.specs.Connects.{HasEnd, tied-words}

rewrite-link : (steps : ℕ) (m : List ℕ) (child parent y j : ℕ) → j < width → (j ≡ PARENT → ⊥)
    → link (rewrite_parents steps m child parent).0 y j ≡ link m y j
unfolding rewrite_parents
rewrite-link zero m child parent y j a n = refl
rewrite-link (suc steps) m child parent y j a n =
    by (eqb child 0) (eqb child parent) (rewrite-link steps (set_link m child PARENT parent) (link (set_link m child PARENT parent) child NEXT) parent y j a n)
  where
    told : List ℕ
    told = set_link m child PARENT parent

    by : (b c : Bool) → link (rewrite_parents steps told (link told child NEXT) parent).0 y j ≡ link told y j
        → link (cond b (m, Ok tt) (cond c (m, Err ParentChildLoop) (rewrite_parents steps told (link told child NEXT) parent))).0 y j ≡ link m y j
    by true c ih = refl
    by false true ih = refl
    by false false ih = ih ∙ link-other m child PARENT parent y j (omega arith) a n

-- Only the parent that the first names can get another end.
range-end : (m : List ℕ) (first last y j : ℕ) → FIRST ≤ j → j ≤ LAST → (slot_of y ≡ slot_of (link m first PARENT) → ⊥)
    → link (detach_range m first last) y j ≡ link m y j
unfolding detach_range connect_neighbors
range-end m first last y j a b n =
    keeps _ _ LAST _ y j (omega arith) (omega arith) (λ _. n)
    ∙ keeps _ _ FIRST _ y j (omega arith) (omega arith) (λ _. n)
    ∙ keeps _ _ PREVIOUS _ y j (omega arith) (omega arith) (λ (e : j ≡ PREVIOUS) _. omega arith)
    ∙ keeps _ _ NEXT _ y j (omega arith) (omega arith) (λ (e : j ≡ NEXT) _. omega arith)
    ∙ keeps _ last NEXT 0 y j (omega arith) (omega arith) (λ (e : j ≡ NEXT) _. omega arith)
    ∙ keeps m first PREVIOUS 0 y j (omega arith) (omega arith) (λ (e : j ≡ PREVIOUS) _. omega arith)

-- Children from the first to the last that leave their parent leave it without any.
connect_none : (m : List ℕ) (x : ℕ) → connect_neighbors m x 0 0 ≡ childless m x
unfolding connect_neighbors last_after first_after
connect_none m x = rw (set_link_none m 0 NEXT 0 refl, set_link_none m 0 PREVIOUS 0 refl) refl

pub range-out : (m : List ℕ) (x first last : ℕ) → link m first PARENT ≡ x → link m first PREVIOUS ≡ 0 → link m last NEXT ≡ 0
    → detach_range m first last ≡ childless m x
unfolding detach_range
range-out m x first last e a b = rw (as_is m first PREVIOUS 0 (sym a), as_is m last NEXT 0 (sym b), b, e, a) (connect_none m x)

-- Where there is a first child: there is a last one, they leave the node x without children, the first names another parent than
-- theirs is to be, and the node behind their place is not the first.
module _ (steps : ℕ) (m : List ℕ) (x first last o p n : ℕ) (leave : first ≢ 0 → detach_range m first last ≡ childless m x) (within : o ≢ 0 → Within m o) (f : HasEnd m o p FIRST) (g : HasEnd m o n LAST)
    (some-last : first ≢ 0 → last ≢ 0) (far : first ≢ 0 → o ≢ 0 → slot_of o ≡ slot_of (link m first PARENT) → ⊥)
    (apart : first ≢ 0 → n ≢ 0 → slot_of n ≡ slot_of first → ⊥) where
  abbrev told : List ℕ × Result Unit ConsistencyError
  told = rewrite_parents steps (detach_range m first last) first o

  module _ (some : first ≢ 0) where
    size : length told.0 ≡ length m
    size = (only_rewrite steps (detach_range m first last) first o).size ∙ (only-detach m first last).size

    told-end : (e : ℕ) → FIRST ≤ e → e ≤ LAST → o ≢ 0 → link told.0 o e ≡ link m o e
    told-end e a b oz =
        rewrite-link steps (detach_range m first last) first o o e (omega arith) (λ (q : e ≡ PARENT). omega arith)
        ∙ range-end m first last o e a b (far some oz)

    tied-joined : (s : Result Unit ConsistencyError) → tied s told.0 first last o p n ≡ joined s told.0 first last o p n
    tied-joined (Ok _) =
        tied-words told.0 first last o p n some (some-last some)
        (λ oz. let (a, b) = within oz in (a, rw size b))
        (λ pz oz z. f pz oz (sym (told-end FIRST (omega arith) (omega arith) oz) ∙ z))
        (λ nz oz z. g nz oz (sym (told-end LAST (omega arith) (omega arith) oz) ∙ z))
        (apart some)
    tied-joined (Err _) = refl

  pub hoist-words : hoisted_in steps m x first last o p n ≡ model.hoisted steps m first last o p n
  unfolding hoisted_in model.hoisted transplanted
  hoist-words = go (ℕ_discrete first 0)
    where
      go : Dec (first ≡ 0) → hoisted_in steps m x first last o p n ≡ model.hoisted steps m first last o p n
      go (yes z) = simp (eq-eqb first 0 z) refl
      go (no z) =
          simp (ne_eqb first 0 z, ne_eqb last 0 (some-last z))
          (subst (λ (w : List ℕ). tied (rewrite_parents steps w first o).1 (rewrite_parents steps w first o).0 first last o p n
          ≡ joined told.1 told.0 first last o p n) (leave z) (tied-joined z told.1))
