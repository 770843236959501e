-- The readers of bytes, payloads, lengths, texts and key numbers, for whatever a reading keeps: where a chain that begins with one
-- is done, the document holds what the meaning asks for; and where it does, the reader answers it and keeps what it kept.
use Prim.Native.Nat.{ℕ, ◌+◌, ◌≤◌, ◌<◌}
use mathlib.Core.Bool.{Bool, true, false, not}
use mathlib.Core.List.{List}
use mathlib.Core.Path.{◌≡◌, refl, sym, ◌∙◌}
use native.Mathlib.Omega.{arith}
use borrow.Author.Tests.{lt-ltb, le-ltb}
use lib.Dec.{T, ltb, leb, leb→le, ltb→lt, nltb→le, le→leb, lt→ltb, eqb→eq}
use lib.ListN.{length, get_or}
use Rattle.json_model.specs.Bytes.{number}
use Rattle.json_model.specs.Reading.{Reading, halt, done, answer, kept, keep, ◌>>=◌, follow, need}
use Rattle.json_model.proofs.Reading.{halt≢done, done_kept, passed, then, pass, fail, need_yes, assoc}
use Rattle.fractured_json_rules.specs.ByteTables.{bytes, Len, tiny, after, KeyNumber, in_byte, spelled}
use Rattle.fractured_json_rules.specs.Meaning.{LengthIs, after_length, Spelled, one_byte, two_bytes, three_bytes, KeyNumberIs}
pub use Rattle.fractured_json_rules.specs.Meaning.{Headed}
use Rattle.fractured_json_rules.specs.Verdict.{header, byte_at, payload, length_at, text_at, Numeral, numeral, after_second, after_first, key_number_at}

-- ---- what is kept, read and replaced at the head of a chain

pub kept_is : {S B : Type 0} (f : S → Reading S B) (s : S) → (kept >>= f) s ≡ f s s
unfolding ◌>>=◌ follow
kept_is f s = refl

pub keep_is : {S B : Type 0} (x : S) (f : Unit {0} → Reading S B) (s : S) → (keep x >>= f) s ≡ f tt x
unfolding ◌>>=◌ follow
keep_is x f s = refl

-- ---- a chain that is done

-- a test before an answer, a chain of chains, and an answer at the head of a chain
tested : {S A B : Type 0} (t : Bool) (n p : ℕ) (a : A) (f : A → Reading S B) (s : S) {b : B} {z : S} → ((need t n p >>= λ _. answer a) >>= f) s ≡ done b z
    → T t × (f a s ≡ done b z)
unfolding ◌>>=◌ follow need
tested true n p a f s e = (tt, e)
tested false n p a f s e = absurd (halt≢done e)

along : {S A B C : Type 0} (m : Reading S A) (f : A → Reading S B) (g : B → Reading S C) (s : S) {b : C} {z : S} → ((m >>= f) >>= g) s ≡ done b z
    → (m >>= λ a. f a >>= g) s ≡ done b z
along m f g s e = sym (assoc m f g s) ∙ e

answered : {S A B : Type 0} (a : A) (f : A → Reading S B) (s : S) {b : B} {z : S} → (answer a >>= f) s ≡ done b z → f a s ≡ done b z
unfolding ◌>>=◌ follow
answered a f s e = e

-- a test at the end of a chain keeps what was kept
pub last_test : {S : Type 0} (t : Bool) (n p : ℕ) (s : S) {u : Unit {0}} {z : S} → need t n p s ≡ done u z → T t × (s ≡ z)
unfolding need
last_test true n p s e = (tt, done_kept e)
last_test false n p s e = absurd (halt≢done e)

module _ {S B : Type 0} (doc : List ℕ) where
  pub header_step : (f : Unit {0} → Reading S B) (s : S) {b : B} {z : S} → (header doc >>= f) s ≡ done b z → Headed doc × (f tt s ≡ done b z)
  unfolding header
  header_step f s e =
      let s1 = passed _ _ _ _ s (along _ _ f s e) in
      let s2 = passed _ _ _ _ s (along _ _ f s s1.rest) in
      let s3 = passed _ _ _ _ s (along _ _ f s s2.rest) in
      let s4 = passed _ _ _ _ s (along _ _ f s s3.rest) in
      let s5 = passed _ _ _ _ s s4.rest in
      (record { long = leb→le _ _ s1.test; short = leb→le _ _ s2.test; magic0 = eqb→eq _ _ s3.test; magic1 = eqb→eq _ _ s4.test; config = eqb→eq _ _ s5.test }, s5.rest)

  pub byte_step : (o p : ℕ) (f : ℕ → Reading S B) (s : S) {b : B} {z : S} → (byte_at doc o p >>= f) s ≡ done b z
      → (o < length doc) × (f (get_or doc o 0) s ≡ done b z)
  unfolding byte_at
  byte_step o p f s e = let r = tested (ltb o (length doc)) _ _ (get_or doc o 0) f s e in (ltb→lt _ _ r.0, r.1)

  pub payload_step : (o w : ℕ) (f : Numeral → Reading S B) (s : S) {b : B} {z : S} → (payload doc o w >>= f) s ≡ done b z
      → (o + 1 + w ≤ length doc) × (f (numeral (number doc (o + 1) w) (o + 1 + w)) s ≡ done b z)
  unfolding payload
  payload_step o w f s e = let r = tested (leb (o + 1 + w) (length doc)) _ _ _ f s e in (leb→le _ _ r.0, r.1)

  pub length_step : (o : ℕ) (x : Len) (f : Numeral → Reading S B) (s : S) {b : B} {z : S} → (length_at doc o x >>= f) s ≡ done b z
      → (n : ℕ) × LengthIs doc o x n × (f (numeral n (after_length o x)) s ≡ done b z)
  unfolding length_at
  length_step o (tiny n) f s e = (n, refl, answered _ f s e)
  length_step o (after w) f s e = let r = payload_step o (bytes w) f s e in (number doc (o + 1) (bytes w), (r.0, refl), r.1)

  pub text_step : (o : ℕ) (n : Numeral) (f : ℕ → Reading S B) (s : S) {b : B} {z : S} → (text_at doc o n >>= f) s ≡ done b z
      → (n.past + n.is ≤ length doc) × (f (n.past + n.is) s ≡ done b z)
  unfolding text_at
  text_step o n f s e = let r = tested (leb (n.past + n.is) (length doc)) _ _ _ f s e in (leb→le _ _ r.0, r.1)

  second_step : (o : ℕ) (l : Bool) → (T l → get_or doc (o + 2) 0 < 128) → (T (not l) → 128 ≤ get_or doc (o + 2) 0) → o + 2 < length doc → 128 ≤ get_or doc (o + 1) 0
      → (f : Numeral → Reading S B) (s : S) {b : B} {z : S} → (after_second doc o (get_or doc (o + 1) 0) (get_or doc (o + 2) 0) l >>= f) s ≡ done b z
      → (n : ℕ) × (e : ℕ) × Spelled doc o n e × (f (numeral n e) s ≡ done b z)
  unfolding after_second
  second_step o true p q i h f s e = (_, _, two_bytes i h (p tt) refl refl, answered _ f s e)
  second_step o false p q i h f s e =
      let r = byte_step (o + 3) _ _ s (along _ _ f s e) in
      let t = tested (leb (get_or doc (o + 3) 0) 3) _ _ _ f s r.1 in
      (_, _, three_bytes r.0 h (q tt) (leb→le _ _ t.0) refl refl, t.1)

  first_step : (o : ℕ) (l : Bool) → (T l → get_or doc (o + 1) 0 < 128) → (T (not l) → 128 ≤ get_or doc (o + 1) 0) → o + 1 < length doc
      → (f : Numeral → Reading S B) (s : S) {b : B} {z : S} → (after_first doc o (get_or doc (o + 1) 0) l >>= f) s ≡ done b z
      → (n : ℕ) × (e : ℕ) × Spelled doc o n e × (f (numeral n e) s ≡ done b z)
  unfolding after_first
  first_step o true p q i f s e = (_, _, one_byte i (p tt) refl refl, answered _ f s e)
  first_step o false p q i f s e =
      let r = byte_step (o + 2) _ _ s (along _ _ f s e) in
      second_step o (ltb (get_or doc (o + 2) 0) 128) (ltb→lt _ _) (nltb→le _ _) r.0 (q tt) f s r.1

  pub key_number_step : (o : ℕ) (x : KeyNumber) (f : Numeral → Reading S B) (s : S) {b : B} {z : S} → (key_number_at doc o x >>= f) s ≡ done b z
      → (n : ℕ) × (e : ℕ) × KeyNumberIs doc o x n e × (f (numeral n e) s ≡ done b z)
  unfolding key_number_at
  key_number_step o (in_byte n) f s e = (n, o + 1, (refl, refl), answered _ f s e)
  key_number_step o spelled f s e =
      let r = byte_step (o + 1) _ _ s (along _ _ f s e) in
      first_step o (ltb (get_or doc (o + 1) 0) 128) (ltb→lt _ _) (nltb→le _ _) r.0 f s r.1

-- ---- what stands there is answered, and what runs out refused

module _ {S : Type 0} (doc : List ℕ) where
  pub header_is : (s : S) → Headed doc → header doc s ≡ done tt s
  unfolding header
  header_is s h =
      pass _ _ _ _ s (le→leb _ _ h.long) ∙ (pass _ _ _ _ s (le→leb _ _ h.short) ∙ (pass _ _ _ _ s (rw h.magic0 tt)
      ∙ (pass _ _ _ _ s (rw h.magic1 tt) ∙ need_yes _ _ _ s (rw h.config tt))))

  pub byte_is : (o p : ℕ) (s : S) → o < length doc → byte_at doc o p s ≡ done (get_or doc o 0) s
  unfolding byte_at
  byte_is o p s h = pass _ _ _ _ s (lt→ltb _ _ h)

  pub byte_past : (o p : ℕ) (s : S) → length doc ≤ o → byte_at doc o p s ≡ halt 35 p s
  unfolding byte_at
  byte_past o p s h = fail _ _ _ _ s (λ t. let l = ltb→lt o (length doc) t in omega arith)

  pub payload_is : (o w : ℕ) (s : S) → o + 1 + w ≤ length doc → payload doc o w s ≡ done (numeral (number doc (o + 1) w) (o + 1 + w)) s
  unfolding payload
  payload_is o w s h = pass _ _ _ _ s (le→leb _ _ h)

  pub length_is : (o : ℕ) (x : Len) (n : ℕ) (s : S) → LengthIs doc o x n → length_at doc o x s ≡ done (numeral n (after_length o x)) s
  unfolding length_at
  length_is o (tiny k) n s h = rw h
  length_is o (after w) n s h = rw h.1 (payload_is o (bytes w) s h.0)

  pub text_is_lem : (o : ℕ) (n : Numeral) (s : S) → n.past + n.is ≤ length doc → text_at doc o n s ≡ done (n.past + n.is) s
  unfolding text_at
  text_is_lem o n s h = pass _ _ _ _ s (le→leb _ _ h)

  pub text_past : (o : ℕ) (n : Numeral) (s : S) → length doc < n.past + n.is → text_at doc o n s ≡ halt 35 o s
  unfolding text_at
  text_past o n s h = fail _ _ _ _ s (λ t. let l = leb→le (n.past + n.is) (length doc) t in omega arith)

  spelled_is : (o n e : ℕ) (s : S) → Spelled doc o n e → key_number_at doc o spelled s ≡ done (numeral n e) s
  unfolding key_number_at after_first after_second
  spelled_is o n e s (one_byte i b p q) =
      then _ _ s (byte_is (o + 1) _ s i) ∙ rw (lt-ltb _ _ b, p, q)
  spelled_is o n e s (two_bytes i b0 b1 p q) =
      let j : o + 1 < length doc = omega arith in
      then _ _ s (byte_is (o + 1) _ s j) ∙ rw (le-ltb _ _ b0) (then _ _ s (byte_is (o + 2) _ s i) ∙ rw (lt-ltb _ _ b1, p, q))
  spelled_is o n e s (three_bytes i b0 b1 b2 p q) =
      let j : o + 1 < length doc = omega arith in
      let k : o + 2 < length doc = omega arith in
      then _ _ s (byte_is (o + 1) _ s j) ∙ rw (le-ltb _ _ b0) (then _ _ s (byte_is (o + 2) _ s k) ∙ rw (le-ltb _ _ b1)
      (then _ _ s (byte_is (o + 3) _ s i) ∙ rw (p, q) (pass _ _ _ _ s (le→leb _ _ b2))))

  pub key_number_is : (o : ℕ) (x : KeyNumber) (n e : ℕ) (s : S) → KeyNumberIs doc o x n e → key_number_at doc o x s ≡ done (numeral n e) s
  unfolding key_number_at
  key_number_is o (in_byte k) n e s h = rw (h.0, h.1)
  key_number_is o spelled n e s h = spelled_is o n e s h
