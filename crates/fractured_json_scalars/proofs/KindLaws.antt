-- One law for each way through the functions of kinds.rt.
use mathlib.Core.Path.{◌≡◌, refl, sym, ◌∙◌}
use mathlib.Core.List.{List}
use Prim.Native.Nat.{ℕ}
use borrow.Author.Rules.{rules}
use Rattle.std.specs.Prelude.{Option, Some, None}
use Rattle.json_model.specs.Reading.{ask, answers, refuses}
use Rattle.json_model.specs.declared.Refusal.{Refusal}
use Rattle.json_model.proofs.Reading.{then, stops}
use Rattle.fractured_json_rules.specs.ByteTables.{form_of}
use Rattle.fractured_json_rules.specs.Verdict.{numeral}
use Rattle.fractured_json_rules.specs.Questions.{is_null, is_false, is_true, is_number, is_string, is_object, is_array, kind_by}
use Rattle.fractured_json_values.specs.Heads.{head_of}
use Rattle.fractured_json_values.specs.Opened.{sized_at}
use Rattle.fractured_json_scalars.specs.Asked.{kind_type, kind_head}
use Rattle.fractured_json_values.specs.declared.types.Head.{Head}
use Rattle.fractured_json_values.specs.declared.types.ValueType.{ValueType}
use Rattle.fractured_json_values.specs.declared.types.ValueType.TheVariants.{Null, False, True, String, Object, Array}
use Rattle.fractured_json_scalars.proofs.Forms.{kind_form}
use Rattle.fractured_json_values.proofs.Opening.{head_width}

number_is : (doc : List ℕ) (at width tiny : ℕ) (kind : ValueType) → (kind ≡ Null → ⊥) → (kind ≡ False → ⊥) → (kind ≡ True → ⊥) → (kind ≡ String → ⊥) → (kind ≡ Object → ⊥) → (kind ≡ Array → ⊥)
    → ask (kind_type doc at kind width tiny) ≡ answers is_number
unfolding kind_type
number_is doc at width tiny Null f g h i j k = absurd (f refl)
number_is doc at width tiny False f g h i j k = absurd (g refl)
number_is doc at width tiny True f g h i j k = absurd (h refl)
number_is doc at width tiny String f g h i j k = absurd (i refl)
number_is doc at width tiny Object f g h i j k = absurd (j refl)
number_is doc at width tiny Array f g h i j k = absurd (k refl)
number_is doc at width tiny _ f g h i j k = refl

module _ (doc : List ℕ) (at b : ℕ) where
  by_head : (o : Option Head) → o ≡ head_of (form_of b) → ask (kind_by doc at (form_of b)) ≡ ask (kind_head doc at o)
  by_head o os = kind_form doc at (form_of b) tt ∙ rw os

  pub kind_reserved : None ≡ head_of (form_of b) → refuses 36 at ≡ ask (kind_by doc at (form_of b))
  unfolding kind_head
  kind_reserved os = sym (by_head None os)

  module _ (h : Head) (hs : Some h ≡ head_of (form_of b)) where
    by_type : (k : ValueType) → h.kind ≡ k → ask (kind_by doc at (form_of b)) ≡ ask (kind_type doc at k h.width h.tiny)
    unfolding kind_head
    by_type k e = by_head _ hs ∙ rw e

    pub null_kind : h.kind ≡ Null → answers is_null ≡ ask (kind_by doc at (form_of b))
    unfolding kind_type
    null_kind e = sym (by_type _ e)

    pub false_kind : h.kind ≡ False → answers is_false ≡ ask (kind_by doc at (form_of b))
    unfolding kind_type
    false_kind e = sym (by_type _ e)

    pub true_kind : h.kind ≡ True → answers is_true ≡ ask (kind_by doc at (form_of b))
    unfolding kind_type
    true_kind e = sym (by_type _ e)

    module _ (r : Refusal) (q : ask (sized_at doc at h.width h.tiny) ≡ refuses r.number r.place) where
      pub string_refused : h.kind ≡ String → refuses r.number r.place ≡ ask (kind_by doc at (form_of b))
      unfolding kind_type
      string_refused e = sym (by_type _ e ∙ stops _ _ tt q)

      pub object_refused : h.kind ≡ Object → refuses r.number r.place ≡ ask (kind_by doc at (form_of b))
      unfolding kind_type
      object_refused e = sym (by_type _ e ∙ stops _ _ tt q)

      pub array_refused : h.kind ≡ Array → refuses r.number r.place ≡ ask (kind_by doc at (form_of b))
      unfolding kind_type
      array_refused e = sym (by_type _ e ∙ stops _ _ tt q)

    module _ (n p : ℕ) (q : ask (sized_at doc at h.width h.tiny) ≡ answers (numeral n p)) where
      pub string_kind : h.kind ≡ String → answers (is_string n) ≡ ask (kind_by doc at (form_of b))
      unfolding kind_type
      string_kind e = sym (by_type _ e ∙ then _ _ tt q)

      pub object_kind : h.kind ≡ Object → answers (is_object n) ≡ ask (kind_by doc at (form_of b))
      unfolding kind_type
      object_kind e = sym (by_type _ e ∙ then _ _ tt q)

      pub array_kind : h.kind ≡ Array → answers (is_array n) ≡ ask (kind_by doc at (form_of b))
      unfolding kind_type
      array_kind e = sym (by_type _ e ∙ then _ _ tt q)

    pub number_kind : (h.kind ≡ Null → ⊥) → (h.kind ≡ False → ⊥) → (h.kind ≡ True → ⊥) → (h.kind ≡ String → ⊥) → (h.kind ≡ Object → ⊥) → (h.kind ≡ Array → ⊥)
        → answers is_number ≡ ask (kind_by doc at (form_of b))
    number_kind f g i j k l = sym (by_type _ refl ∙ number_is doc at h.width h.tiny h.kind f g i j k l)

pub ruleset kind_of_laws = (
  kind_reserved,
  null_kind,
  false_kind,
  true_kind,
  string_refused,
  object_refused,
  array_refused,
  string_kind,
  object_kind,
  array_kind,
  number_kind,
  head_width,
  rules,
)
