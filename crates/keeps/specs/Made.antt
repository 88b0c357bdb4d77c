-- A slot that no found identifier names becomes a node. What is found then, what every node then holds, that links stay sound,
-- and that a forest has one more root chain, of that node. From the words of a slot written whole.
use Rattle.std.specs.Prelude.{◌≡◌, ◌≢◌, ◌⊎◌, List, [], ◌∷◌, ℕ, ◌*◌, ◌<◌, ◌≤◌, length}
use Rattle.std.proofs.Common.{sym, ap, ◌∙◌, subst, inl, inr, arith}
use Rattle.std.proofs.Math.Decide.{ℕ_discrete}
use Rattle.link.specs.Ids.{id_of, slot_of, stamp_of, kind_of}
use Rattle.link.specs.Words.{width, STAMP, NUMBER, word}
use Rattle.link.specs.WordLaws.{link-some}
use Rattle.link.specs.Found.{Found}
use Rattle.link.specs.FoundLaws.{found-held, held_found}
use Rattle.rules.specs.Lists.{Off, All}
use Rattle.rules.specs.Links.{Link, word_of, view}
use Rattle.rules.specs.Sound.{LiveSlot, FreeSlot, Unspent, SoundLinks, Linked}
use Rattle.rules.specs.Forest.{Forest, roots, Holds, put}
use Rattle.forest.specs.Found.{found-nodes, found_some}
use Rattle.forest.specs.Looks.{word-inside}
use Rattle.forest.specs.Grow.{sound-grow, holds-grow}
use Rattle.arena.specs.Nodes.{slot_at}
use Rattle.keeps.specs.Slots.{slot-other, slot-stamp, slot-number, slot-link}

-- From memory m with u slots in use to m' with u': x is made, with this number, and nothing else that is found changes.
pub record Created (m : List ℕ) (u : ℕ) (m' : List ℕ) (u' x number : ℕ) : Type 0 where
  pub new : Found m u x → ⊥
  pub found : Found m' u' x
  pub holds : word m' (slot_of x) NUMBER ≡ number
  pub alone : (k : Link) → view m' k x ≡ 0
  pub old : (y : ℕ) → Found m' u' y → (y ≡ x) ⊎ Found m u y
  pub kept : (y : ℕ) → Found m u y → Found m' u' y
  pub same : (y j : ℕ) → Found m u y → j < width → word m' (slot_of y) j ≡ word m (slot_of y) j

module _ {m : List ℕ} {u : ℕ} {m' : List ℕ} {u' x number : ℕ} (C : Created m u m' u' x number) where
  same-links : (k : Link) (y : ℕ) → Found m u y → view m' k y ≡ view m k y
  same-links k y f = link-some m' y (word_of k) f.from ∙ C.same y (word_of k) f (word-inside k) ∙ sym (link-some m y (word_of k) f.from)

  pub created-sound : SoundLinks (view m) (Found m u) → SoundLinks (view m') (Found m' u')
  created-sound S =
      sound-grow (view m) (view m') (Found m u) (Found m' u') x C.old C.kept same-links C.alone (found-nodes m u) (found-nodes m' u') S

  pub created-forest : (F : Forest) → Holds (view m) (Found m u) F → (j : ℕ) → F (roots j) ≡ []
      → Holds (view m') (Found m' u') (put F (roots j) (x ∷ []))
  created-forest F H j free =
      holds-grow (view m) (view m') (Found m u) (Found m' u') x C.old C.kept same-links C.alone
      C.found (found_some m' u' x C.found) C.new F H j free

-- Slot s, not found before, with the stamp k: of the slots up to u' it alone is new.
module _ (m : List ℕ) (u u' s k v : ℕ) (p : 0 < s) (room : s * width ≤ length m) (small : k ≤ 32767) (inside : s ≤ u') (up : u ≤ u')
    (rest : (t : ℕ) → t ≤ u' → t ≢ s → t ≤ u) (off : (y : ℕ) → Found m u y → slot_of y ≢ s) where
  slot_of_lem : slot_of (id_of s k) ≡ s
  slot_of_lem = omega arith

  stamp_of_lem : stamp_of (id_of s k) ≡ k
  stamp_of_lem = omega arith

  pub made-created : Created m u (slot_at m s k v) u' (id_of s k) v
  made-created = record {
    new = λ f. off (id_of s k) f slot_of_lem;
    found = held_found m' u' (id_of s k) (rw slot_of_lem p) (rw slot_of_lem inside) (rw stamp_of_lem small)
        (ap (λ (t : ℕ). word m' t STAMP) slot_of_lem ∙ slot-stamp m s k v p room ∙ sym stamp_of_lem);
    holds = ap (λ (t : ℕ). word m' t NUMBER) slot_of_lem ∙ slot-number m s k v p room;
    alone = λ j. link-some m' (id_of s k) (word_of j) (rw slot_of_lem p) ∙ ap (λ (t : ℕ). word m' t (word_of j)) slot_of_lem ∙ slot-link m s k v p room j;
    old = λ y f. old y f (ℕ_discrete (slot_of y) s);
    kept = λ y f. held_found m' u' y f.from (let a = f.upto in omega arith) f.small
        (slot-other m s k v (slot_of y) STAMP p f.from (omega arith) (off y f) ∙ found-held m u y f);
    same = λ y j f c. slot-other m s k v (slot_of y) j p f.from c (off y f);
  }
    where
      m' : List ℕ
      m' = slot_at m s k v

      old : (y : ℕ) → Found m' u' y → Dec (slot_of y ≡ s) → (y ≡ id_of s k) ⊎ Found m u y
      old y f (yes e) =
          let w : k ≡ stamp_of y = sym (ap (λ (t : ℕ). word m' t STAMP) e ∙ slot-stamp m s k v p room) ∙ found-held m' u' y f in
          inl (omega arith)
      old y f (no n) = inr (held_found m u y f.from (rest (slot_of y) f.upto n) f.small
          (sym (slot-other m s k v (slot_of y) STAMP p f.from (omega arith) n) ∙ found-held m' u' y f))

  pub made-kinds : ((t : ℕ) → 1 ≤ t → t ≤ u → LiveSlot m t → kind_of (word m t STAMP) ≡ 0)
      → (t : ℕ) → 1 ≤ t → t ≤ u' → LiveSlot (slot_at m s k v) t → kind_of (word (slot_at m s k v) t STAMP) ≡ 0
  made-kinds h t a b l = by (ℕ_discrete t s)
    where
      by : Dec (t ≡ s) → kind_of (word (slot_at m s k v) t STAMP) ≡ 0
      by (yes e) =
          let w : word (slot_at m s k v) t STAMP ≡ k = ap (λ (z : ℕ). word (slot_at m s k v) z STAMP) e ∙ slot-stamp m s k v p room in
          omega arith
      by (no n) =
          let w = slot-other m s k v t STAMP p a (omega arith) n in
          ap kind_of w ∙ h t a (rest t b n) (subst (λ (z : ℕ). stamp_of z ≤ 32767) w l)

-- The free chain, of slots other than s.
module _ (m : List ℕ) (u u' s k v : ℕ) (p : 0 < s) (up : u ≤ u') where
  abbrev InOrder : List ℕ → ℕ → ℕ → Type 0
  InOrder w n t = (1 ≤ t) × (t ≤ n) × FreeSlot w t

  pub made-linked : (fs : List ℕ) → Off s fs → All (InOrder m u) fs → Linked (λ t. word m t NUMBER) fs → Linked (λ t. word (slot_at m s k v) t NUMBER) fs
  made-linked [] o a l = tt
  made-linked (t ∷ fs) o a l =
      (slot-other m s k v t NUMBER p a.0.0 (omega arith) (λ e. o.0 (sym e)) ∙ l.0, made-linked fs o.1 a.1 l.1)

  pub made-within : (fs : List ℕ) → Off s fs → All (InOrder m u) fs → All (InOrder (slot_at m s k v) u') fs
  made-within [] o a = tt
  made-within (t ∷ fs) o a = (
    (a.0.0, let b = a.0.1 in omega arith, rw (slot-other m s k v t STAMP p a.0.0 (omega arith) (λ e. o.0 (sym e))) a.0.2),
    made-within fs o.1 a.1,
  )

  pub made-unspent : (fs : List ℕ) → Off s fs → All (InOrder m u) fs → All (Unspent m) fs → All (Unspent (slot_at m s k v)) fs
  made-unspent [] o a b = tt
  made-unspent (t ∷ fs) o a b = (
    rw (slot-other m s k v t STAMP p a.0.0 (omega arith) (λ e. o.0 (sym e))) b.0,
    made-unspent fs o.1 a.1 b.1,
  )
