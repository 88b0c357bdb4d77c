-- The loop over the commands: where it stands, one more command, and its end.
-- From the definitions alone, with what one command leaves.
use Rattle.std.specs.Prelude.{◌≡◌, refl, None, ℕ, zero, suc, ◌+◌, ◌-◌, ◌*◌, ◌<◌, ◌≤◌, set}
use Rattle.std.proofs.Math.Path.{sym, ap}
use Rattle.std.proofs.Common.{◌∙◌, subst, sub-one, length-set, take-append-drop, length-append, take-suc-set, drop-set-lt, drop-drop, length-take-le}
use mathlib.Core.List.{List, [], ◌∷◌, ◌++◌, append_assoc, append-nil}
use native.Mathlib.Omega.{arith}
use Rattle.std.proofs.Math.ListN.{length, take, drop}
use Rattle.link.specs.declared.header.Header.{Header}
use Rattle.rules.specs.declared.answer.Answer.{Answer}
use Rattle.walk.specs.Written.{written}
use Rattle.command.specs.Commands.{commanded}
use Rattle.command.specs.Known.{Knows, Did}
use Rattle.command.specs.Acts.{Starts}
use Rattle.command.specs.StartLaws.{readied-same}
use Rattle.command.specs.declared.known.Known.{Known}
use Rattle.command.specs.declared.command.Command.{Command}
use Rattle.command.specs.declared.start.Begun.{Begun}
use Rattle.batch.specs.Trace.{size, command_at}
use Rattle.batch.specs.Batch.{After, after, performed}
use Rattle.batch.specs.Performing.{before, Performs}
use Rattle.batch.specs.declared.perform.Performed.{Performed}

pub performed-step : (n : ℕ) (trace : List ℕ) (at : ℕ) (m : List ℕ) (h : Header) (s : List ℕ) → 0 < n
    → performed n trace at m h s
    ≡ (let one = commanded (command_at trace at) m h s in
    before (one.2.number ∷ one.2.result ∷ []) (performed (n - 1) trace (at + size) one.0 one.2.header one.1))
unfolding performed
performed-step zero trace at m h s p = absurd (omega arith)
performed-step (suc n) trace at m h s p = simp (sub-one)

-- two words for each command
pub answers-length : (n : ℕ) (trace : List ℕ) (at : ℕ) (m : List ℕ) (h : Header) (s : List ℕ) → length (performed n trace at m h s).answers ≡ 2 * n
unfolding performed
answers-length zero trace at m h s = refl
answers-length (suc n) trace at m h s =
    let one = commanded (command_at trace at) m h s in
    let e = answers-length n trace (at + size) one.0 one.2.header one.1 in
    omega arith

-- two words written at the end of what is written
module _ (list : List ℕ) (i x y : ℕ) (fits : 2 * i + 2 ≤ length list) where
  abbrev list' : List ℕ
  list' = set (set list (2 * i) x) (2 * i + 1) y

  pub put-length : length list' ≡ length list
  put-length = length-set (set list (2 * i) x) (2 * i + 1) y ∙ length-set list (2 * i) x

  pub put-take : take (2 * (i + 1)) list' ≡ take (2 * i) list ++ (x ∷ y ∷ [])
  put-take =
      let e : 2 * (i + 1) ≡ suc (2 * i + 1) = omega arith in
      let f : 2 * i + 1 ≡ suc (2 * i) = omega arith in
      let a = take-suc-set (set list (2 * i) x) (2 * i + 1) y (rw (length-set list (2 * i) x) (omega arith)) in
      let b = take-suc-set list (2 * i) x (omega arith) in
      ap (λ (k : ℕ). take k list') e ∙ a ∙ ap (λ (l : List ℕ). l ++ (y ∷ [])) (ap (λ (k : ℕ). take k (set list (2 * i) x)) f ∙ b)
      ∙ append_assoc (take (2 * i) list) (x ∷ []) (y ∷ [])

  pub put-drop : drop (2 * (i + 1)) list' ≡ drop (2 * (i + 1)) list
  put-drop = drop-set-lt (2 * (i + 1)) (set list (2 * i) x) (2 * i + 1) y (omega arith) ∙ drop-set-lt (2 * (i + 1)) list (2 * i) x (omega arith)

-- Where the loop stands: i commands are done, their answers written, and what is left makes the whole.
pub record Performing (whole : After) (n : ℕ) (trace list₀ m s list : List ℕ) (i : ℕ) (h : Header) (known : Known) : Type 0 where
  pub upto : i ≤ n
  pub knows : Knows m h s known
  pub places : length list ≡ length list₀
  pub behind : drop (2 * i) list ≡ drop (2 * i) list₀
  pub rest : before (take (2 * i) list) (performed (n - i) trace (i * size) m h s) ≡ whole

pub performing-begin : (n : ℕ) (trace m s list : List ℕ) (h : Header) {known : Known} → Knows m h s known
    → Performing (performed n trace 0 m h s) n trace list m s list 0 h known
performing-begin n trace m s list h K =
    let e : n - 0 ≡ n = omega arith in
    record { upto = omega arith; knows = K; places = refl; behind = refl; rest = ap (λ (k : ℕ). performed k trace 0 m h s) e }

-- from a command on
pub performing-from : (n from : ℕ) (trace m s list : List ℕ) (h : Header) {known : Known} → from ≤ n → Knows m h s known
    → Performing (before (take (2 * from) list) (performed (n - from) trace (from * size) m h s)) n trace list m s list from h known
performing-from n from trace m s list h l K = record { upto = l; knows = K; places = refl; behind = refl; rest = refl }

module _ (whole : After) (n : ℕ) (trace list₀ : List ℕ) (room : 2 * n ≤ length list₀) (m s list : List ℕ) (i : ℕ) (h : Header) {known : Known} (P : Performing whole n trace list₀ m s list i h known) where
  pub performing-room : i < n → 2 * i + 2 ≤ length list
  performing-room l = let e = P.places in omega arith

  pub performing-more : {c : Command} {m' s' l' : List ℕ} {a : Answer} {k : Known} → i < n → c ≡ command_at trace (i * size) → Did (commanded c m h s) m' s' a k
      → l' ≡ set (set list (2 * i) a.number) (2 * i + 1) a.result → Performing whole n trace list₀ m' s' l' (i + 1) a.header k
  performing-more {c} {m'} {s'} {l'} {a} {k} l e D w = record {
    upto = omega arith;
    knows = D.knows;
    places = ap length w ∙ put-length list i x y fits ∙ P.places;
    behind = ap (drop (2 * (i + 1))) w ∙ put-drop list i x y fits ∙ later;
    rest = rests;
  }
    where
      x : ℕ
      x = a.number

      y : ℕ
      y = a.result

      fits : 2 * i + 2 ≤ length list
      fits = performing-room l

      later : drop (2 * (i + 1)) list ≡ drop (2 * (i + 1)) list₀
      later =
          let e : 2 * i + 2 ≡ 2 * (i + 1) = omega arith in
          rw (sym e) (sym (drop-drop 2 (2 * i) list) ∙ ap (drop 2) P.behind ∙ drop-drop 2 (2 * i) list₀)

      rests : before (take (2 * (i + 1)) l') (performed (n - (i + 1)) trace ((i + 1) * size) m' a.header s') ≡ whole
      rests =
          let o = commanded (command_at trace (i * size)) m h s in
          let same : (m', s', a) ≡ o = D.same ∙ ap (λ (k : Command). commanded k m h s) e in
          let left : n - i - 1 ≡ n - (i + 1) = omega arith in
          let at : i * size + size ≡ (i + 1) * size = omega arith in
          let t : take (2 * (i + 1)) l' ≡ take (2 * i) list ++ (x ∷ y ∷ []) = ap (take (2 * (i + 1))) w ∙ put-take list i x y fits in
          ap (λ (l : List ℕ). before l (performed (n - (i + 1)) trace ((i + 1) * size) m' a.header s')) t
          ∙ ap (λ (k : ℕ). before (take (2 * i) list ++ (x ∷ y ∷ [])) (performed k trace ((i + 1) * size) m' a.header s')) (sym left)
          ∙ ap (λ (k : ℕ). before (take (2 * i) list ++ (x ∷ y ∷ [])) (performed (n - i - 1) trace k m' a.header s')) (sym at)
          ∙ ap (λ (o : List ℕ × List ℕ × Answer). before (take (2 * i) list ++ (o.2.number ∷ o.2.result ∷ [])) (performed (n - i - 1) trace (i * size + size) o.0 o.2.header o.1)) same
          ∙ ap (λ (l : List ℕ). after (rest' o).words (rest' o).scratch (rest' o).header l) (append_assoc (take (2 * i) list) (o.2.number ∷ o.2.result ∷ []) (rest' o).answers)
          ∙ ap (before (take (2 * i) list)) (sym (performed-step (n - i) trace (i * size) m h s (omega arith)))
          ∙ P.rest
        where
          rest' : List ℕ × List ℕ × Answer → After
          rest' o = performed (n - i - 1) trace (i * size + size) o.0 o.2.header o.1

  pub performing-end : n ≤ i → Performs whole list₀ m s list (record { header = h; known = known })
  unfolding performed written
  performing-end l =
      let e : n - i ≡ 0 = omega arith in
      let r : before (take (2 * i) list) (performed 0 trace (i * size) m h s) ≡ whole
      = ap (λ (k : ℕ). before (take (2 * i) list) (performed k trace (i * size) m h s)) (sym e) ∙ P.rest in
      let f : 2 * i ≤ length list = let a = P.upto in let b = P.places in omega arith in
      let t : take (2 * i) list ≡ whole.answers = sym (append-nil (take (2 * i) list)) ∙ ap (λ (a : After). a.answers) r in
      let k : 2 * i ≡ length whole.answers = sym (length-take-le (2 * i) list f) ∙ ap length t in
      record {
        words = ap (λ (a : After). a.words) r;
        scratch = ap (λ (a : After). a.scratch) r;
        header = ap (λ (a : After). a.header) r;
        answers = sym (take-append-drop (2 * i) list) ∙ ap (λ (l : List ℕ). l ++ drop (2 * i) list) t
            ∙ ap (λ (l : List ℕ). whole.answers ++ l) (P.behind ∙ ap (λ (j : ℕ). drop j list₀) k);
        knows = P.knows;
      }

  -- handed over where a command found memory ready: what is left is done from there
  pub performing-rest : {c : Command} {m' s' m'' s'' l'' : List ℕ} {r : Begun} {p : Performed} → i < n → c ≡ command_at trace (i * size)
      → Starts (commanded c) m h s m' s' r → r.reply ≡ None
      → Performs (before (take (2 * i) list) (performed (n - i) trace (i * size) m' h s')) list m'' s'' l'' p → Performs whole list₀ m'' s'' l'' p
  unfolding written
  performing-rest {c} {m'} {s'} {m''} {s''} {l''} {r} {p} l e S f Q = record {
    words = Q.words ∙ ap (λ (a : After). a.words) all;
    scratch = Q.scratch ∙ ap (λ (a : After). a.scratch) all;
    header = Q.header ∙ ap (λ (a : After). a.header) all;
    answers = Q.answers ∙ ap (λ (t : List ℕ). (take (2 * i) list ++ rest.answers) ++ t) later
        ∙ ap (λ (a : After). a.answers ++ drop (length a.answers) list₀) all;
    knows = Q.knows;
  }
    where
      rest : After
      rest = performed (n - i) trace (i * size) m' h s'

      -- the command has the outcome that it had, and so have those behind it
      same : rest ≡ performed (n - i) trace (i * size) m h s
      same =
          let one : commanded (command_at trace (i * size)) m' h s' ≡ commanded (command_at trace (i * size)) m h s
          = ap (λ (k : Command). commanded k m' h s') (sym e) ∙ readied-same S f ∙ ap (λ (k : Command). commanded k m h s) e in
          performed-step (n - i) trace (i * size) m' h s' (omega arith)
          ∙ ap (λ (o : List ℕ × List ℕ × Answer). before (o.2.number ∷ o.2.result ∷ []) (performed (n - i - 1) trace (i * size + size) o.0 o.2.header o.1)) one
          ∙ sym (performed-step (n - i) trace (i * size) m h s (omega arith))

      all : before (take (2 * i) list) rest ≡ whole
      all = ap (before (take (2 * i) list)) same ∙ P.rest

      -- the places behind the answers are as they were
      later : drop (length (take (2 * i) list ++ rest.answers)) list ≡ drop (length (take (2 * i) list ++ rest.answers)) list₀
      later =
          let fits : 2 * i ≤ length list = let a = P.upto in let b = P.places in omega arith in
          let k : length (take (2 * i) list ++ rest.answers) ≡ 2 * i + length rest.answers
          = length-append (take (2 * i) list) rest.answers ∙ ap (λ (x : ℕ). x + length rest.answers) (length-take-le (2 * i) list fits) in
          rw k (sym (drop-drop (length rest.answers) (2 * i) list) ∙ ap (drop (length rest.answers)) P.behind ∙ drop-drop (length rest.answers) (2 * i) list₀)

-- what is known, by another name
pub performs-known : {whole : After} {list₀ m s list : List ℕ} {h : Header} {k known : Known} → k ≡ known
    → Performs whole list₀ m s list (record { header = h; known = known }) → Performs whole list₀ m s list (record { header = h; known = k })
performs-known {whole} {list₀} {m} {s} {list} {h} e = subst (λ (x : Known). Performs whole list₀ m s list (record { header = h; known = x })) (sym e)
