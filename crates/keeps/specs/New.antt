-- A creation, on ready memory whose slots in use fit the capacity. Ready stays ready; FULL exactly when the free chain is empty and
-- used is the capacity; else one node more, alone in a root chain, with a stamp that its slot never had; no word past used changes.
use Rattle.std.specs.Prelude.{◌≡◌, refl, ◌≢◌, ◌↔◌, List, [], ◌∷◌, ℕ, suc, ◌+◌, ◌*◌, ◌<◌, ◌≤◌, length, get_or}
use Rattle.std.proofs.Common.{sym, ap, ◌∙◌, arith, eq-eqb, ne_eqb}
use Rattle.std.proofs.Math.Path.{subst}
use Rattle.std.proofs.Math.Decide.{ℕ_discrete}
use Rattle.link.specs.Ids.{id_of, slot_of, stamp_of}
use Rattle.link.specs.Stamps.{reused_bits}
use Rattle.link.specs.Words.{width, STAMP, NUMBER, capacity_of, word}
use Rattle.link.specs.Found.{Found}
use Rattle.link.specs.declared.header.Header.{Header}
use Rattle.rules.specs.Answers.{DONE, FULL, answer, header}
use Rattle.rules.specs.declared.answer.Answer.{Answer}
use Rattle.rules.specs.Lists.{head_or, last_or, Off, NoDup, All}
use Rattle.rules.specs.Sound.{FreeSlot, Unspent, Linked, Ready}
use Rattle.rules.specs.Forest.{Forest, roots, put}
use Rattle.forest.specs.Free.{free_chain}
use Rattle.forest.specs.Whole.{Forested}
use Rattle.sound.specs.GuardLaws.{capacity-fits}
use Rattle.arena.specs.Nodes.{slot_at}
use Rattle.arena.specs.FreeList.{last_left}
use Rattle.arena.specs.FreeListLaws.{length-slot_at, pop-some}
use Rattle.arena.specs.Create.{made, fresh, reused, new_node}
use Rattle.arena.specs.CreateLaws.{first-free, new-reused, new-fresh, new-full}
use Rattle.keeps.specs.Slots.{slot-other, slot-past, slot-stamp}
use Rattle.keeps.specs.Made.{Created, created-sound, created-forest, made-created, made-kinds, made-linked, made-within, made-unspent}
use Rattle.keeps.specs.Handouts.{handouts, times_out}
use Rattle.keeps.specs.HandoutLaws.{handouts-live, handouts-removed, times_in_lem, times_none, times-same, times_more}

-- ---- the three cases

-- the header once the first of the chain is taken
abbrev after : List ℕ → Header → Header
after m h = let next = word m h.first NUMBER in header h.used next (last_left next h.last)

abbrev stamp_next : List ℕ → Header → ℕ
stamp_next m h = reused_bits (stamp_of (word m h.first STAMP))

left_none : (next last : ℕ) → next ≡ 0 → last_left next last ≡ 0
unfolding last_left
left_none next last e = simp (eq-eqb next 0 e)

left-some : (next last : ℕ) → next ≢ 0 → last_left next last ≡ last
unfolding last_left
left-some next last n = simp (ne_eqb next 0 n)

module _ (m : List ℕ) (h : Header) (v : ℕ) (fits : h.used ≤ capacity_of (length m)) where
  new_elim : (P : List ℕ × Answer → Type 0) → (0 < h.first → P (made m (after m h) h.first (stamp_next m h) v))
      → (h.first ≡ 0 → h.used < capacity_of (length m) → P (made m (header (h.used + 1) h.first h.last) (h.used + 1) 0 v))
      → (h.first ≡ 0 → h.used ≡ capacity_of (length m) → P (m, answer h FULL 0)) → P (new_node m h v)
  unfolding reused fresh
  new_elim P f g k = by (ℕ_discrete h.first 0) (ℕ_discrete h.used (capacity_of (length m)))
    where
      by : Dec (h.first ≡ 0) → Dec (h.used ≡ capacity_of (length m)) → P (new_node m h v)
      by (no e) d = subst P (sym (new-reused m h v (omega arith))) (rw (pop-some m h (omega arith)) (f (omega arith)))
      by (yes e) (no n) = subst P (sym (new-fresh m h v e (omega arith))) (g e (omega arith))
      by (yes e) (yes q) = subst P (sym (new-full m h v e q)) (k e q)

  -- ---- FULL exactly, and what a refusal leaves

  pub new-number : ((new_node m h v).1.number ≡ FULL) ↔ ((h.first ≡ 0) × (h.used ≡ capacity_of (length m)))
  new-number = new_elim (λ r. (r.1.number ≡ FULL) ↔ ((h.first ≡ 0) × (h.used ≡ capacity_of (length m))))
      (λ p. ((λ (e : DONE ≡ FULL). absurd (omega arith)), λ w. let e = w.0 in absurd (omega arith)))
      (λ e l. ((λ (e : DONE ≡ FULL). absurd (omega arith)), λ w. let q = w.1 in absurd (omega arith)))
      (λ e q. (λ _. (e, q), λ _. refl))

  pub new-refused : (new_node m h v).1.number ≢ DONE → new_node m h v ≡ (m, answer h FULL 0)
  new-refused = new_elim (λ r. r.1.number ≢ DONE → r ≡ (m, answer h FULL 0))
      (λ p n. absurd (n refl)) (λ e l n. absurd (n refl)) (λ e q n. refl)

  pub new-length : length (new_node m h v).0 ≡ length m
  new-length = new_elim (λ r. length r.0 ≡ length m)
      (λ p. length-slot_at m _ _ _) (λ e l. length-slot_at m _ _ _) (λ e q. refl)

  pub new-fits : (new_node m h v).1.header.used ≤ capacity_of (length (new_node m h v).0)
  new-fits = rw new-length (new_elim (λ r. r.1.header.used ≤ capacity_of (length m))
      (λ p. fits) (λ e l. omega arith) (λ e q. fits))

-- ---- ready memory

module _ (m : List ℕ) (h : Header) (v : ℕ) (fits : h.used ≤ capacity_of (length m)) (R : Ready m h) where
  -- The chain is empty: there is no slot on it.
  pub full_exactly : ((new_node m h v).1.number ≡ FULL) ↔ ((R.sound.free.slots ≡ []) × (h.used ≡ capacity_of (length m)))
  full_exactly = (
    λ e. (empty R.sound.free.slots (sym R.sound.free.begins ∙ ((new-number m h v fits).0 e).0) R.sound.free.within, ((new-number m h v fits).0 e).1),
    λ w. (new-number m h v fits).1 (R.sound.free.begins ∙ ap (λ (fs : List ℕ). head_or fs 0) w.0, w.1),
  )
    where
      empty : (fs : List ℕ) → head_or fs 0 ≡ 0 → All (λ s. (1 ≤ s) × (s ≤ h.used) × FreeSlot m s) fs → fs ≡ []
      empty [] e w = refl
      empty (s ∷ fs) e w = let a = w.0.0 in absurd (omega arith)

  within : h.used * width ≤ length m
  within = (capacity-fits (length m) h.used fits).1

  -- the first of the chain
  module _ (p : 0 < h.first) where
    taken : (h.first ≤ h.used) × (32769 ≤ stamp_of (word m h.first STAMP))
    taken = first-free m h R p

    taken-room : h.first * width ≤ length m
    taken-room = let w = taken.0 in let l = within in omega arith

    taken-small : stamp_next m h ≤ 32767
    taken-small = let w = taken.1 in omega arith

    taken_off : (y : ℕ) → Found m h.used y → slot_of y ≢ h.first
    taken_off y f e =
        let w = taken.1 in
        let a : stamp_of (word m h.first STAMP) ≡ stamp_of y = sym (ap (λ (z : ℕ). stamp_of (word m z STAMP)) e) ∙ f.stamp in
        let b = f.small in omega arith

    taken-created : Created m h.used (made m (after m h) h.first (stamp_next m h) v).0 h.used (id_of h.first (stamp_next m h)) v
    taken-created =
        made-created m h.used h.used h.first (stamp_next m h) v p taken-room taken-small taken.0 (omega arith) (λ t a n. a) taken_off

    taken-ready : Ready (made m (after m h) h.first (stamp_next m h) v).0 (after m h)
    taken-ready = by R.sound.free.slots R.sound.free.begins R.sound.free.ends R.sound.free.linked R.sound.free.distinct R.sound.free.within R.unspent
      where
        lasts : (fs : List ℕ) → word m h.first NUMBER ≡ head_or fs 0 → h.last ≡ last_or h.first fs
            → All (λ t. (1 ≤ t) × (t ≤ h.used) × FreeSlot m t) fs → last_left (word m h.first NUMBER) h.last ≡ last_or 0 fs
        lasts [] a b c = left_none (word m h.first NUMBER) h.last a
        lasts (t ∷ fs) a b c = let d = c.0.0 in left-some (word m h.first NUMBER) h.last (λ (e : word m h.first NUMBER ≡ 0). omega arith) ∙ b

        by : (fs : List ℕ) → h.first ≡ head_or fs 0 → h.last ≡ last_or 0 fs → Linked (λ t. word m t NUMBER) fs → NoDup fs
            → All (λ t. (1 ≤ t) × (t ≤ h.used) × FreeSlot m t) fs → All (Unspent m) fs
            → Ready (made m (after m h) h.first (stamp_next m h) v).0 (after m h)
        by [] b e l d w n = absurd (omega arith)
        by (t ∷ fs) b e l d w n = record {
          sound = record {
            kind = made-kinds m h.used h.used h.first (stamp_next m h) v p taken-room taken-small taken.0 (omega arith) (λ t a n. a) taken_off R.sound.kind;
            links = created-sound taken-created R.sound.links;
            free = free_chain _ _ h.used _ _ fs (ap (λ (z : ℕ). word m z NUMBER) b ∙ l.0)
                (made-linked m h.used h.used h.first (stamp_next m h) v p (omega arith) fs away w.1 l.1) d.1
                (made-within m h.used h.used h.first (stamp_next m h) v p (omega arith) fs away w.1)
                (lasts fs (ap (λ (z : ℕ). word m z NUMBER) b ∙ l.0) (e ∙ ap (λ (z : ℕ). last_or z fs) (sym b)) w.1);
          };
          unspent = made-unspent m h.used h.used h.first (stamp_next m h) v p (omega arith) fs away w.1 n.1;
        }
          where
            away : Off h.first fs
            away = subst (λ (z : ℕ). Off z fs) (sym b) d.0

  -- the next fresh slot
  module _ (l : h.used < capacity_of (length m)) where
    fresh-room : (h.used + 1) * width ≤ length m
    fresh-room = (capacity-fits (length m) (h.used + 1) (omega arith)).1

    fresh-rest : (t : ℕ) → t ≤ h.used + 1 → t ≢ h.used + 1 → t ≤ h.used
    fresh-rest t a n = omega arith

    fresh_off : (y : ℕ) → Found m h.used y → slot_of y ≢ h.used + 1
    fresh_off y f e = let b = f.upto in omega arith

    fresh-created : Created m h.used (made m h (h.used + 1) 0 v).0 (h.used + 1) (id_of (h.used + 1) 0) v
    fresh-created =
        made-created m h.used (h.used + 1) (h.used + 1) 0 v (omega arith) fresh-room (omega arith) (omega arith) (omega arith) fresh-rest fresh_off

    fresh-ready : Ready (made m h (h.used + 1) 0 v).0 (header (h.used + 1) h.first h.last)
    fresh-ready = record {
      sound = record {
        kind = made-kinds m h.used (h.used + 1) (h.used + 1) 0 v (omega arith) fresh-room (omega arith) (omega arith) (omega arith) fresh-rest fresh_off R.sound.kind;
        links = created-sound fresh-created R.sound.links;
        free = free_chain _ _ (h.used + 1) _ _ R.sound.free.slots R.sound.free.begins
            (made-linked m h.used (h.used + 1) (h.used + 1) 0 v (omega arith) (omega arith) R.sound.free.slots away R.sound.free.within R.sound.free.linked)
            R.sound.free.distinct
            (made-within m h.used (h.used + 1) (h.used + 1) 0 v (omega arith) (omega arith) R.sound.free.slots away R.sound.free.within)
            R.sound.free.ends;
      };
      unspent = made-unspent m h.used (h.used + 1) (h.used + 1) 0 v (omega arith) (omega arith) R.sound.free.slots away R.sound.free.within R.unspent;
    }
      where
        far : (fs : List ℕ) → All (λ t. (1 ≤ t) × (t ≤ h.used) × FreeSlot m t) fs → Off (h.used + 1) fs
        far [] a = tt
        far (t ∷ fs) a = ((λ e. let b = a.0.1 in omega arith), far fs a.1)

        away : Off (h.used + 1) R.sound.free.slots
        away = far R.sound.free.slots R.sound.free.within

  -- ---- the theorems

  pub new-ready : Ready (new_node m h v).0 (new_node m h v).1.header
  new-ready = new_elim m h v fits (λ r. Ready r.0 r.1.header) taken-ready (λ e. fresh-ready) (λ e q. R)

  pub new-created : (new_node m h v).1.number ≡ DONE
      → Created m h.used (new_node m h v).0 (new_node m h v).1.header.used (new_node m h v).1.result v
  new-created = new_elim m h v fits (λ r. r.1.number ≡ DONE → Created m h.used r.0 r.1.header.used r.1.result v)
      (λ p _. taken-created p) (λ e l _. fresh-created l) (λ e q (d : FULL ≡ DONE). absurd (omega arith))

  -- The forest after it is the old one with one more root chain, of the new node.
  pub new-forest : (new_node m h v).1.number ≡ DONE → (F : Forest) → Forested m h F → (j : ℕ) → F (roots j) ≡ []
      → Forested (new_node m h v).0 (new_node m h v).1.header (put F (roots j) ((new_node m h v).1.result ∷ []))
  new-forest d = created-forest (new-created d)

  -- No word beyond the slots used after it is written.
  pub new-past : (i : ℕ) → (new_node m h v).1.header.used * width ≤ i → get_or (new_node m h v).0 i 0 ≡ get_or m i 0
  new-past i = new_elim m h v fits (λ r. r.1.header.used * width ≤ i → get_or r.0 i 0 ≡ get_or m i 0)
      (λ p c. let w = (taken p).0 in slot-past m _ _ _ i p (omega arith)) (λ e l c. slot-past m _ _ _ i (omega arith) c) (λ e q c. refl)

  -- The stamp handed out is one more than any that its slot had, and the slot was handed out once more;
  pub new-stamp : (new_node m h v).1.number ≡ DONE → (stamp_of (new_node m h v).1.result ≡ times_out m h.used (slot_of (new_node m h v).1.result))
      × (times_out (new_node m h v).0 (new_node m h v).1.header.used (slot_of (new_node m h v).1.result) ≡ suc (times_out m h.used (slot_of (new_node m h v).1.result)))
  new-stamp = new_elim m h v fits (λ r. r.1.number ≡ DONE → (stamp_of r.1.result ≡ times_out m h.used (slot_of r.1.result))
      × (times_out r.0 r.1.header.used (slot_of r.1.result) ≡ suc (times_out m h.used (slot_of r.1.result))))
      (λ p _. let w = taken p in out h.first (stamp_next m h) h.used p (taken-room p) (taken-small p) w.0
      (times_in_lem m h.used h.first w.0 ∙ handouts-removed _ (let a = w.1 in omega arith)))
      (λ e l _. out (h.used + 1) 0 (h.used + 1) (omega arith) (fresh-room l) (omega arith) (omega arith) (times_none m h.used (h.used + 1) (omega arith)))
      (λ e q (d : FULL ≡ DONE). absurd (omega arith))
    where
      out : (s k u' : ℕ) → 0 < s → s * width ≤ length m → k ≤ 32767 → s ≤ u' → times_out m h.used s ≡ k
          → (stamp_of (id_of s k) ≡ times_out m h.used (slot_of (id_of s k)))
          × (times_out (slot_at m s k v) u' (slot_of (id_of s k)) ≡ suc (times_out m h.used (slot_of (id_of s k))))
      out s k u' p room small inside e =
          let es : slot_of (id_of s k) ≡ s = omega arith in
          let ek : stamp_of (id_of s k) ≡ k = omega arith in
          let er : stamp_of k ≡ k = omega arith in
          rw es (
            ek ∙ sym e,
            times_in_lem _ u' s inside ∙ ap (λ (w : ℕ). handouts (stamp_of w)) (slot-stamp m s k v p room)
                ∙ ap handouts er ∙ handouts-live k small ∙ ap suc (sym e),
          )

  -- no other slot was.
  pub new-times : (new_node m h v).1.number ≡ DONE → (t : ℕ) → 0 < t → t ≢ slot_of (new_node m h v).1.result
      → times_out (new_node m h v).0 (new_node m h v).1.header.used t ≡ times_out m h.used t
  new-times = new_elim m h v fits (λ r. r.1.number ≡ DONE → (t : ℕ) → 0 < t → t ≢ slot_of r.1.result
      → times_out r.0 r.1.header.used t ≡ times_out m h.used t)
      (λ p _ t a n. let s = taken-small p in
      times-same m _ h.used t (slot-other m h.first (stamp_next m h) v t STAMP p a (omega arith) (λ (e : t ≡ h.first). n (omega arith))))
      (λ e l _ t a n. times-same m _ (h.used + 1) t
      (slot-other m (h.used + 1) 0 v t STAMP (omega arith) a (omega arith) (λ (e : t ≡ h.used + 1). n (omega arith)))
      ∙ times_more m h.used t (λ (e : t ≡ h.used + 1). n (omega arith)))
      (λ e q (d : FULL ≡ DONE). absurd (omega arith))
