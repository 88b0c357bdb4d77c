-- From a view to words: memory that looks like a view whose links hold a forest holds that forest, at what is then found; and
-- where that view has no cycle its links are sound.
use Rattle.std.specs.Prelude.{◌≡◌, refl, ◌≢◌, ◌↔◌, List, [], ◌∷◌, ℕ}
use Rattle.std.proofs.Common.{◌∙◌, inl, inr}
use Rattle.link.specs.Found.{Found}
use Rattle.rules.specs.Lists.{In}
use Rattle.rules.specs.Links.{Link, par, prv, nxt, fst, lst, View, view}
use Rattle.rules.specs.Sound.{SoundLinks}
use Rattle.rules.specs.Forest.{Key, children, roots, owner, Forest, Segment, Chain, OwnerIn, Holds}
use Rattle.forest.specs.View.{SameOn}
use Rattle.follow.specs.Follow.{ends_see}
use Rattle.forest.specs.Found.{found-nodes}
use Rattle.forest.specs.Acyclic.{Acyclic}
use Rattle.forest.specs.HoldSound.{found_of, holds-sound}
use Rattle.forest.specs.Looks.{Looks}

pub segment_see : (v w : View) (o b : ℕ) (xs : List ℕ) (e : ℕ) → ((y : ℕ) → In y xs → (w par y ≡ v par y) × (w prv y ≡ v prv y) × (w nxt y ≡ v nxt y))
    → Segment (v par) (v prv) (v nxt) o b xs e → Segment (w par) (w prv) (w nxt) o b xs e
segment_see v w o b [] e same s = tt
segment_see v w o b (x ∷ xs) e same s =
    let q = same x (inl refl) in
    (q.0 ∙ s.0, q.1 ∙ s.1, q.2 ∙ s.2, segment_see v w o x xs e (λ y t. same y (inr t)) s.3)

-- links that agree at live nodes
pub holds_see : (v w : View) (live : ℕ → Type 0) (F : Forest) → SameOn live w v → Holds v live F → Holds w live F
holds_see v w live F same H = record { members = H.members; chains = λ k ok. chain k ok (own k ok) }
  where
    own : (k : Key) → OwnerIn live k → owner k ≢ 0 → (l : Link) → w l (owner k) ≡ v l (owner k)
    own (children p) ok z l = same l p ok
    own (roots j) ok z l = absurd (z refl)

    chain : (k : Key) → OwnerIn live k → (owner k ≢ 0 → (l : Link) → w l (owner k) ≡ v l (owner k)) → Chain w (owner k) (F k)
    chain k ok o = record {
      segment = segment_see v w (owner k) 0 (F k) 0
          (λ y t. let l = (H.members.member k y t).0 in (same par y l, same prv y l, same nxt y l)) (H.chains k ok).segment;
      first = λ z. o z fst ∙ (H.chains k ok).first z;
      last = λ z. o z lst ∙ (H.chains k ok).last z;
    }

-- the same nodes, live in another way
pub holds-live : (v : View) (live live' : ℕ → Type 0) (F : Forest) → ((y : ℕ) → live y ↔ live' y) → Holds v live F → Holds v live' F
holds-live v live live' F h H = record {
  members = record {
    home = H.members.home;
    member = λ k y t. let w = H.members.member k y t in ((h y).0 w.0, w.1, on k w.2);
    placed = λ y l. H.members.placed y ((h y).1 l);
    distinct = H.members.distinct;
    some = λ y l. H.members.some y ((h y).1 l);
  };
  chains = λ k ok. H.chains k (back k ok);
}
  where
    back : (k : Key) → OwnerIn live' k → OwnerIn live k
    back (children p) o = (h p).1 o
    back (roots j) o = tt

    on : (k : Key) → OwnerIn live k → OwnerIn live' k
    on (children p) o = (h p).0 o
    on (roots j) o = tt

module _ (m' : List ℕ) (live : ℕ → Type 0) (used : ℕ) (w : View) (F : Forest) (L : Looks m' live used w) (H : Holds w live F) where
  pub looks-holds : Holds (view m') (Found m' used) F
  looks-holds = holds-live (view m') live (Found m' used) F L.alive (holds_see w (view m') live F L.sees H)

  pub looks-sound : Acyclic w live → SoundLinks (view m') (Found m' used)
  looks-sound a = holds-sound (view m') (Found m' used) F looks-holds (found-nodes m' used)
      (λ y f. let l = (L.alive y).1 f in ends_see live (w par) (view m' par) (λ z k. L.sees par z k) (λ z k. found_of w live F H z k par) y l (a y l))
