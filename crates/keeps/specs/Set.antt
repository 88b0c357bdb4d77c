-- What `set` changes: the number of the node it names, and nothing else; a refusal changes nothing.
-- So the same identifiers are found, the same links are read, and memory is sound, ready and holds a forest exactly as before.
use Rattle.std.specs.Prelude.{◌≡◌, ◌≢◌, ◌↔◌, Bool, cond, length}
use Rattle.std.proofs.Math.Path.{refl}
use Rattle.std.proofs.Common.{sym, ap, ◌∙◌, arith, eq-eqb, ne_eqb, eqb-true}
use Rattle.std.proofs.Math.Bool.{true, false}
use mathlib.Core.List.{List, [], ◌∷◌}
use Prim.Native.Nat.{ℕ, ◌*◌, ◌<◌, ◌≤◌}
use Rattle.std.proofs.Math.Decide.{ℕ_discrete}
use Rattle.std.proofs.Math.Dec.{eqb}
use Rattle.link.specs.Ids.{slot_of, stamp_of, kind_of}
use Rattle.link.specs.Words.{width, STAMP, NUMBER, word, link, set_link}
use Rattle.link.specs.WordLaws.{length-set_link, set_link-same, set_link-other, set_link-slot, link-some, link-ap, link-other}
use Rattle.link.specs.Found.{Found, found_b}
use Rattle.link.specs.FoundLaws.{found_is}
use Rattle.link.specs.declared.header.Header.{Header}
use Rattle.rules.specs.Answers.{DONE, reply}
use Rattle.rules.specs.declared.answer.Reply.{Reply}
use Rattle.rules.specs.Lists.{All}
use Rattle.rules.specs.Links.{Link, par, prv, nxt, fst, lst, word_of, view}
use Rattle.rules.specs.Sound.{FreeSlot, Unspent, Linked, Sound, Ready}
use Rattle.rules.specs.Forest.{Forest}
use Rattle.forest.specs.Lists.{all_map}
use Rattle.forest.specs.Found.{found_one}
use Rattle.forest.specs.Looks.{Looks, word-inside, found-kept}
use Rattle.forest.specs.After.{looks-holds, looks-sound}
use Rattle.forest.specs.Whole.{Forested, forest_of, sound_forested, no_cycle}
use Rattle.sound.specs.GuardLaws.{capacity-fits}
use Rattle.arena.specs.Reads.{named_no, read_word, set_number}
use Rattle.arena.specs.ReadLaws.{named_is, named-slot, read_done, read-refused}

-- Two memories that differ in numbers of live slots alone.
record Alike (m m' : List ℕ) : Type 0 where
  size : length m' ≡ length m
  stamps : (s : ℕ) → word m' s STAMP ≡ word m s STAMP
  links : (k : Link) (y : ℕ) → view m' k y ≡ view m k y
  nexts : (s : ℕ) → 1 ≤ s → 32768 ≤ stamp_of (word m s STAMP) → word m' s NUMBER ≡ word m s NUMBER

back : {m m' : List ℕ} → Alike m m' → Alike m' m
back A = record {
  size = sym A.size;
  stamps = λ s. sym (A.stamps s);
  links = λ k y. sym (A.links k y);
  nexts = λ s a b. sym (A.nexts s a (rw (A.stamps s) at b));
}

module _ (m m' : List ℕ) (A : Alike m m') (h : Header) (room : h.used * width ≤ length m) where
  looks : Looks m' (Found m h.used) h.used (view m)
  looks = record { room = rw A.size room; alive = found-kept m m' h.used A.stamps; sees = λ k y _. A.links k y }

  alike-forest : (F : Forest) → Forested m h F → Forested m' h F
  alike-forest F H = looks-holds m' (Found m h.used) h.used (view m) F looks H

  linked-alike : (fs : List ℕ) → All (λ s. (1 ≤ s) × (s ≤ h.used) × FreeSlot m s) fs → Linked (λ s. word m s NUMBER) fs → Linked (λ s. word m' s NUMBER) fs
  linked-alike [] w l = tt
  linked-alike (s ∷ fs) w l = (A.nexts s w.0.0 w.0.2.0 ∙ l.0, linked-alike fs w.1 l.1)

  unfoldable alike-sound : Sound m h → Sound m' h
  alike-sound S = record {
    kind = λ s a b l. ap kind_of (A.stamps s) ∙ S.kind s a b (rw (A.stamps s) at l);
    links = looks-sound m' (Found m h.used) h.used (view m) (forest_of m h S) looks (sound_forested m h S) (no_cycle m h S);
    free = record {
      both = S.free.both;
      slots = S.free.slots;
      begins = S.free.begins;
      linked = linked-alike S.free.slots S.free.within S.free.linked;
      distinct = S.free.distinct;
      within = all_map _ _ (λ s w. (w.0, w.1, rw (A.stamps s) w.2)) S.free.slots S.free.within;
      ends = S.free.ends;
    };
  }

  alike-ready : Ready m h → Ready m' h
  unfolding alike-sound
  alike-ready R = record {
    sound = alike-sound R.sound;
    unspent = all_map (Unspent m) (Unspent m') (λ s u. rw (A.stamps s) u) R.sound.free.slots R.unspent;
  }

-- Done or refused, whichever it is.
module _ (m : List ℕ) (h : Header) (id v : ℕ) where
  set_elim : (P : List ℕ → Type 0) → (named_no m h id ≡ DONE → P (set_link m id NUMBER v)) → P m → P (set_number m h id v).0
  unfolding set_number
  set_elim P f g = by (eqb (named_no m h id) DONE) refl
    where
      by : (b : Bool) → eqb (named_no m h id) DONE ≡ b → P (cond {A = List ℕ × Reply} b (set_link m id NUMBER v, reply DONE 0) (m, reply (named_no m h id) 0)).0
      by true e = f (eqb-true (named_no m h id) DONE e)
      by false e = g

  set-alike : Alike m (set_number m h id v).0
  set-alike = set_elim (Alike m) done (record { size = refl; stamps = λ s. refl; links = λ k y. refl; nexts = λ s a b. refl })
    where
      done : named_no m h id ≡ DONE → Alike m (set_link m id NUMBER v)
      done d = record {
        size = length-set_link m id NUMBER v;
        stamps = λ s. set_link-other m id NUMBER v s STAMP (omega arith) (omega arith) (λ (e : STAMP ≡ NUMBER). omega arith);
        links = λ k y. link-other m id NUMBER v y (word_of k) (omega arith) (word-inside k) (link-not-number k);
        nexts = λ s a b. set_link-slot m id NUMBER v s NUMBER (omega arith) (omega arith) (omega arith) (λ e. removed s b e);
      }
        where
          link-not-number : (k : Link) → word_of k ≢ NUMBER
          link-not-number par e = omega arith
          link-not-number prv e = omega arith
          link-not-number nxt e = omega arith
          link-not-number fst e = omega arith
          link-not-number lst e = omega arith

          removed : (s : ℕ) → 32768 ≤ stamp_of (word m s STAMP) → s ≢ slot_of id
          removed s b e =
              let f = found_is m h.used id (named_is m h id d).1 in
              let q : stamp_of (word m s STAMP) ≡ stamp_of id = ap (λ (t : ℕ). stamp_of (word m t STAMP)) e ∙ f.stamp in
              let l = f.small in omega arith

  pub set-length : length (set_number m h id v).0 ≡ length m
  set-length = set-alike.size

  -- Every word but the number of that node stays.
  pub set_other : (t j : ℕ) → 0 < t → j < width → (t ≡ slot_of id → j ≡ NUMBER → ⊥) → word (set_number m h id v).0 t j ≡ word m t j
  set_other t j p a n = set_elim (λ w. word w t j ≡ word m t j) (λ _. by (ℕ_discrete j NUMBER)) refl
    where
      by : Dec (j ≡ NUMBER) → word (set_link m id NUMBER v) t j ≡ word m t j
      by (yes e) = set_link-slot m id NUMBER v t j (omega arith) a p (λ q. n q e)
      by (no e) = set_link-other m id NUMBER v t j (omega arith) a e

  pub set-number : named_no m h id ≡ DONE → word (set_number m h id v).0 (slot_of id) NUMBER ≡ v
  unfolding set_number
  set-number d =
      let s = named-slot m h id d in
      simp (eq-eqb (named_no m h id) DONE d) (set_link-same m id NUMBER v (omega arith) s.0 s.1)

  pub set-refused : named_no m h id ≢ DONE → (set_number m h id v).0 ≡ m
  unfolding set_number
  set-refused n = simp (ne_eqb (named_no m h id) DONE n)

  -- The same identifiers are found, whatever is in use; the same links are read.
  pub set_found : (used y : ℕ) → Found m used y ↔ Found (set_number m h id v).0 used y
  set_found used y = found-kept m (set_number m h id v).0 used set-alike.stamps y

  pub set_view : (k : Link) (y : ℕ) → view (set_number m h id v).0 k y ≡ view m k y
  set_view = set-alike.links

  -- Memory is sound, ready, and holds a forest exactly as before.
  room : named_no m h id ≡ DONE → h.used * width ≤ length m
  room d = (capacity-fits (length m) h.used (named_is m h id d).0).1

  both_ways : (P : List ℕ → Type 0) → ((w w' : List ℕ) → Alike w w' → h.used * width ≤ length w → P w → P w') → P m ↔ P (set_number m h id v).0
  both_ways P f = set_elim (λ w. Alike m w → P m ↔ P w)
      (λ d A. (f m _ A (room d), f _ m (back A) (rw A.size (room d)))) (λ A. (λ p. p, λ p. p)) set-alike

  pub set-sound : Sound m h ↔ Sound (set_number m h id v).0 h
  set-sound = both_ways (λ w. Sound w h) (λ w w' A r. alike-sound w w' A h r)

  pub set-ready : Ready m h ↔ Ready (set_number m h id v).0 h
  set-ready = both_ways (λ w. Ready w h) (λ w w' A r. alike-ready w w' A h r)

  pub set-forest : (F : Forest) → Forested m h F ↔ Forested (set_number m h id v).0 h F
  set-forest F = both_ways (λ w. Forested w h F) (λ w w' A r. alike-forest w w' A h r F)

  -- What a read says afterwards: of that node's number, the number set; else what it said before.
  set-named : (y : ℕ) → named_no (set_number m h id v).0 h y ≡ named_no m h y
  unfolding named_no found_b
  set-named y = simp (set-length, stamp)
    where
      stamp : link (set_number m h id v).0 y STAMP ≡ link m y STAMP
      stamp = link-ap m (set_number m h id v).0 y STAMP (λ _. set-alike.stamps (slot_of y))

  pub set-get : named_no m h id ≡ DONE → read_word NUMBER (set_number m h id v).0 h id ≡ reply DONE v
  set-get d = sym (read_done (set_number m h id v).0 h id NUMBER (sym (set-named id ∙ d)) refl
      (sym (link-some _ id NUMBER (named-slot m h id d).0 ∙ set-number d)))

  pub set_reads : (k y : ℕ) → k < width → (y ≡ id → k ≡ NUMBER → ⊥) → read_word k (set_number m h id v).0 h y ≡ read_word k m h y
  set_reads k y a n = by (ℕ_discrete (named_no m h y) DONE)
    where
      m' : List ℕ
      m' = (set_number m h id v).0

      by : Dec (named_no m h y ≡ DONE) → read_word k m' h y ≡ read_word k m h y
      by (no e) = sym (read-refused m' h y k (sym (set-named y)) e) ∙ read-refused m h y k refl e
      by (yes e) =
          sym (read_done m' h y k (sym (set-named y ∙ e)) refl refl)
          ∙ ap (reply DONE) (link-ap m m' y k (λ p. same p (ℕ_discrete k NUMBER))) ∙ read_done m h y k (sym e) refl refl
        where
          same : 0 < slot_of y → Dec (k ≡ NUMBER) → word m' (slot_of y) k ≡ word m (slot_of y) k
          same p (no q) = set_other (slot_of y) k p a (λ _ z. q z)
          same p (yes q) = set_elim (λ w. word w (slot_of y) k ≡ word m (slot_of y) k)
              (λ d. set_link-slot m id NUMBER v (slot_of y) k (omega arith) a p (λ z. n (one d z) q)) refl
            where
              one : named_no m h id ≡ DONE → slot_of y ≡ slot_of id → y ≡ id
              one d = found_one m h.used y id (found_is m h.used y (named_is m h y e).1) (found_is m h.used id (named_is m h id d).1)
