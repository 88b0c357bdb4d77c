-- P6 and P7 of document 01: 131071 is not found on the memory of P2; and a header all zero is ready over any words.
-- With one node, memory is ready too: the definition is not empty.
use Rattle.std.specs.Prelude.{◌≡◌, refl, List, [], ◌∷◌, ℕ, ◌≤◌}
use Rattle.std.proofs.Common.{ap, ◌∙◌, subst, arith}
use Rattle.link.specs.Ids.{slot_of, stamp_of, kind_of}
use Rattle.link.specs.Words.{STAMP, word, link}
use Rattle.link.specs.Found.{Found}
use Rattle.link.specs.declared.header.Header.{Header}
use Rattle.rules.specs.Links.{Link, par, prv, nxt, fst, lst, view}
use Rattle.rules.specs.Sound.{LiveSlot, Ready}
use Rattle.follow.specs.Follow.{Ends, stop, step}
use Rattle.forest.specs.Found.{found-nodes}
use Rattle.forest.specs.Local.{Local, pred, pred-parent, tests-sound}

-- Three numbers as a header.
abbrev header : ℕ → ℕ → ℕ → Header
header used first last = record { used = used; first = first; last = last }

pub P6 : Found (131071 ∷ 0 ∷ 0 ∷ 0 ∷ 0 ∷ 0 ∷ 0 ∷ 0 ∷ 20 ∷ 0 ∷ 0 ∷ 196608 ∷ 0 ∷ 0 ∷ 0 ∷ 30 ∷ 0 ∷ 131072 ∷ 0 ∷ 0 ∷ 0 ∷ []) 3 131071 → ⊥
P6 f = let s = f.small in omega arith

nothing : (m : List ℕ) (x : ℕ) → Found m 0 x → ⊥
nothing m x f = let a = f.from in let b = f.upto in omega arith

pub P7 : (m : List ℕ) → Ready m (header 0 0 0)
P7 m = record {
  sound = record {
    kind = λ s a b. absurd (omega arith);
    links = record {
      found = λ x l. absurd (nothing m x l);
      both = λ x l. absurd (nothing m x l);
      kids = λ x l. absurd (nothing m x l);
      after = λ x l. absurd (nothing m x l);
      before = λ x l. absurd (nothing m x l);
      share = λ x l. absurd (nothing m x l);
      once = λ x l. absurd (nothing m x l);
    };
    free = record { both = (λ _. refl, λ _. refl); slots = []; begins = refl; linked = tt; distinct = tt; within = tt; ends = refl };
  };
  unspent = tt;
}

-- ---- one node

single : List ℕ
single = 0 ∷ 10 ∷ 0 ∷ 0 ∷ 0 ∷ 0 ∷ 0 ∷ []

the_one : (x : ℕ) → Found single 1 x → x ≡ 65536
unfolding single word
the_one x f =
    let a = f.from in let b = f.upto in
    let e : slot_of x ≡ 1 = omega arith in
    let h : 0 ≡ stamp_of x = subst (λ (s : ℕ). stamp_of (word single s STAMP) ≡ stamp_of x) e f.stamp in
    omega arith

no-links : (k : Link) → view single k 65536 ≡ 0
unfolding single word link
no-links par = refl
no-links prv = refl
no-links nxt = refl
no-links fst = refl
no-links lst = refl

kind_data : kind_of (word single 1 STAMP) ≡ 0
unfolding single word
kind_data = refl

pub one-node : Ready (0 ∷ 10 ∷ 0 ∷ 0 ∷ 0 ∷ 0 ∷ 0 ∷ []) (header 1 0 0)
unfolding single
one-node = record {
  sound = record {
    kind = kinds;
    links = tests-sound (view single) (Found single 1) (found-nodes single 1) tests (λ x l. ends x (the_one x l));
    free = record { both = (λ _. refl, λ _. refl); slots = []; begins = refl; linked = tt; distinct = tt; within = tt; ends = refl };
  };
  unspent = tt;
}
  where
    kinds : (s : ℕ) → 1 ≤ s → s ≤ 1 → LiveSlot single s → kind_of (word single s STAMP) ≡ 0
    kinds s a b c = let e : s ≡ 1 = omega arith in rw e kind_data

    none : (k : Link) (x : ℕ) → Found single 1 x → view single k x ≡ 0
    none k x l = ap (view single k) (the_one x l) ∙ no-links k

    tests : Local (view single) (Found single 1)
    tests = record {
      found = λ x l k h. absurd (h (none k x l));
      both = λ x l. (λ _. none lst x l, λ _. none fst x l);
      first = λ x l h. absurd (h (none fst x l));
      last = λ x l h. absurd (h (none lst x l));
      after = λ x l h. absurd (h (none nxt x l));
      before = λ x l h. absurd (h (none prv x l));
      leads = λ x l _ h. absurd (h (none par x l));
    }

    ends : (x : ℕ) → x ≡ 65536 → Ends (pred (view single)) x
    ends x e = rw e (step {x = 65536} (λ z. omega arith) (rw (pred-parent (view single) 65536 (no-links prv) ∙ no-links par) stop))
