-- The laws of reading that may be refused: what a chain of readings says of its steps, and how it is put together.
use mathlib.Core.Path.{◌≡◌, refl, ap, ◌∙◌}
use mathlib.Core.Bool.{Bool, true, false}
use Prim.Native.Nat.{ℕ, ◌≤◌, ◌<◌}
use native.Mathlib.Omega.{arith}
use lib.Dec.{T, leb, ltb, eqb, leb→le, ltb→lt, eqb→eq, eqb_refl}
use Rattle.json_model.specs.Reading.{Outcome, halt, done, Reading, Asked, follow, ◌>>=◌, need}

pub halt≢done : {S A : Type 0} {n p : ℕ} {s z : S} {a : A} → halt n p s ≡ done a z → ⊥
halt≢done e = let w : ◌≡◌ {A = ℕ} 0 1 = cc in omega arith

pub done_answer : {S A : Type 0} {a b : A} {s z : S} → done a s ≡ done b z → a ≡ b
done_answer e = cc

pub done_kept : {S A : Type 0} {a b : A} {s z : S} → done a s ≡ done b z → s ≡ z
done_kept e = cc

-- ---- tests that pass, and tests that fail

pub eq→eqb : {m n : ℕ} → m ≡ n → T (eqb m n)
eq→eqb {m} {n} e = rw e (eqb_refl n)

pub over : {m n : ℕ} → n < m → T (leb m n) → ⊥
over {m} {n} h t = let l = leb→le m n t in omega arith

pub past : {m n : ℕ} → n ≤ m → T (ltb m n) → ⊥
past {m} {n} h t = let l = ltb→lt m n t in omega arith

pub unlike : {m n : ℕ} → (m ≡ n → ⊥) → T (eqb m n) → ⊥
unlike {m} {n} h t = h (eqb→eq m n t)

-- ---- a chain that is done: so is its first step, and so is the rest

pub record Step {S A B : Type 0} (m : Reading S A) (f : A → Reading S B) (s : S) (b : B) (z : S) : Type 0 where
  pub got : A
  pub mid : S
  pub first : m s ≡ done got mid
  pub rest : f got mid ≡ done b z

step_by : {S A B : Type 0} (m : Reading S A) (f : A → Reading S B) (s : S) (b : B) (z : S) (o : Outcome S A) → m s ≡ o → follow o f ≡ done b z → Step m f s b z
unfolding follow
step_by m f s b z (halt n p x) e h = absurd (halt≢done h)
step_by m f s b z (done a x) e h = record { got = a; mid = x; first = e; rest = h }

pub step : {S A B : Type 0} (m : Reading S A) (f : A → Reading S B) (s : S) {b : B} {z : S} → (m >>= f) s ≡ done b z → Step m f s b z
unfolding ◌>>=◌
step m f s h = step_by m f s _ _ (m s) refl h

pub record Passed {S B : Type 0} (t : Bool) (after : Outcome S B) (b : B) (z : S) : Type 0 where
  pub test : T t
  pub rest : after ≡ done b z

pub passed : {S B : Type 0} (t : Bool) (n p : ℕ) (f : Unit {0} → Reading S B) (s : S) {b : B} {z : S} → (need t n p >>= f) s ≡ done b z → Passed t (f tt s) b z
unfolding ◌>>=◌ follow need
passed true n p f s h = record { test = tt; rest = h }
passed false n p f s h = absurd (halt≢done h)

pub need_done : {S : Type 0} (t : Bool) (n p : ℕ) (s : S) {u : Unit {0}} {z : S} → need t n p s ≡ done u z → T t
unfolding need
need_done true n p s h = tt
need_done false n p s h = absurd (halt≢done h)

-- ---- putting a chain together

pub then : {S A B : Type 0} (m : Reading S A) (f : A → Reading S B) (s : S) {a : A} {z : S} → m s ≡ done a z → (m >>= f) s ≡ f a z
unfolding ◌>>=◌ follow
then m f s h = rw h

pub stops : {S A B : Type 0} (m : Reading S A) (f : A → Reading S B) (s : S) {n p : ℕ} {z : S} → m s ≡ halt n p z → (m >>= f) s ≡ halt n p z
unfolding ◌>>=◌ follow
stops m f s h = rw h

pub need_yes : {S : Type 0} (t : Bool) (n p : ℕ) (s : S) → T t → need t n p s ≡ done tt s
unfolding need
need_yes true n p s h = refl
need_yes false n p s h = absurd h

pub need_no : {S : Type 0} (t : Bool) (n p : ℕ) (s : S) → (T t → ⊥) → need t n p s ≡ halt n p s
unfolding need
need_no true n p s h = absurd (h tt)
need_no false n p s h = refl

pub pass : {S B : Type 0} (t : Bool) (n p : ℕ) (f : Unit {0} → Reading S B) (s : S) → T t → (need t n p >>= f) s ≡ f tt s
pass t n p f s h = then (need t n p) f s (need_yes t n p s h)

pub fail : {S B : Type 0} (t : Bool) (n p : ℕ) (f : Unit {0} → Reading S B) (s : S) → (T t → ⊥) → (need t n p >>= f) s ≡ halt n p s
fail t n p f s h = stops (need t n p) f s (need_no t n p s h)

-- a chain of chains is one chain
assoc_by : {S A B C : Type 0} (f : A → Reading S B) (g : B → Reading S C) (o : Outcome S A) → follow (follow o f) g ≡ follow o (λ a. f a >>= g)
unfolding ◌>>=◌ follow
assoc_by f g (halt n p s) = refl
assoc_by f g (done a s) = refl

pub assoc : {S A B C : Type 0} (m : Reading S A) (f : A → Reading S B) (g : B → Reading S C) (s : S) → ((m >>= f) >>= g) s ≡ (m >>= λ a. f a >>= g) s
unfolding ◌>>=◌
assoc m f g s = assoc_by f g (m s)

-- ---- a reading that neither looks at what is kept nor changes it says the same whatever is kept

-- what is said where nothing is kept, beside s
abbrev pub carry : {S A : Type 0} → S → Asked A → Outcome S A
carry s (halt n p u) = halt n p s
carry s (done a u) = done a s

module _ {S : Type 0} where
  follows : {A B : Type 0} (q : Asked A) (f : A → Reading S B) (g : A → Reading (Unit {0}) B) (s : S) → ((a : A) → f a s ≡ carry s (g a tt))
      → follow (carry s q) f ≡ carry s (follow q g)
  unfolding follow
  follows (halt n p u) f g s h = refl
  follows (done a u) f g s h = h a

  pub carry_then : {A B : Type 0} (m : Reading S A) (n : Reading (Unit {0}) A) (f : A → Reading S B) (g : A → Reading (Unit {0}) B) (s : S)
      → m s ≡ carry s (n tt) → ((a : A) → f a s ≡ carry s (g a tt)) → (m >>= f) s ≡ carry s ((n >>= g) tt)
  unfolding ◌>>=◌
  carry_then m n f g s h k = ap (λ o. follow o f) h ∙ follows (n tt) f g s k

  pub carry_need : (t : Bool) (n p : ℕ) (s : S) → need t n p s ≡ carry s (need t n p tt)
  unfolding need
  carry_need true n p s = refl
  carry_need false n p s = refl

  pub carry_test : {B : Type 0} (t : Bool) (n p : ℕ) (f : Unit {0} → Reading S B) (g : Unit {0} → Reading (Unit {0}) B) (s : S) → f tt s ≡ carry s (g tt tt)
      → (need t n p >>= f) s ≡ carry s ((need t n p >>= g) tt)
  carry_test t n p f g s h = carry_then (need t n p) (need t n p) f g s (carry_need t n p s) (λ _. h)
