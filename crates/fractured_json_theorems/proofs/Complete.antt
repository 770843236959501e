-- What keeps the rules passes: each key that there is room for.
use Prim.Native.Nat.{ℕ, ◌≤◌, ◌<◌}
use mathlib.Core.List.{List}
use mathlib.Core.Path.{◌≡◌, ◌∙◌}
use native.Mathlib.Omega.{arith}
use lib.Dec.{lt→ltb}
use lib.ListN.{length, length-append}
use Rattle.json_model.specs.Reading.{done}
use Rattle.json_model.proofs.Reading.{then, pass}
use Rattle.fractured_json_rules.specs.Meaning.{Names, Keys, KeyIs, as_text, as_back, as_global}
use Rattle.fractured_json_rules.specs.Verdict.{key_by, new_key, old_key, listed_key, check_key}
use Rattle.fractured_json_theorems.proofs.Keys.{fresh_met}
use Rattle.fractured_json_theorems.proofs.Readers.{kept_is, keep_is, byte_is, text_is_lem, key_number_is}

module _ (room : ℕ) (doc : List ℕ) (names : Names) where
  pub key_passes : (t : List ℕ) (o : ℕ) (ks : Keys) (e : ℕ) (kz : Keys) → KeyIs doc names t o ks e kz → length kz ≤ room → check_key room doc (length names) o ks ≡ done e kz
  unfolding check_key key_by new_key old_key listed_key
  key_passes t o ks e kz (as_text x n b s i y f p q) r =
      let fresh = rw y.same at (fresh_met doc t ks f) in
      let spare : length ks < room = omega (arith, rw (q, length-append) at r) in
      rw (p, q)
      (then _ _ ks (byte_is doc o o ks s.inside) ∙ rw s.form_is (then _ _ ks (key_number_is doc o x n b ks i)
      ∙ (then _ _ ks (text_is_lem doc o _ ks y.inside) ∙ (kept_is _ ks ∙ (pass _ _ _ _ ks fresh ∙ (pass _ _ _ _ ks (lt→ltb _ _ spare) ∙ keep_is _ _ ks))))))
  key_passes t o ks e kz (as_back x j s i h y q) r =
      rw q (then _ _ ks (byte_is doc o o ks s.inside) ∙ rw s.form_is (then _ _ ks (key_number_is doc o x j e ks i) ∙ (kept_is _ ks ∙ pass _ _ _ _ ks (lt→ltb _ _ h))))
  key_passes t o ks e kz (as_global x j s i h y q) r =
      rw q (then _ _ ks (byte_is doc o o ks s.inside) ∙ rw s.form_is (then _ _ ks (key_number_is doc o x j e ks i) ∙ pass _ _ _ _ ks (lt→ltb _ _ h)))
