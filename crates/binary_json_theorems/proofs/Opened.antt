-- A document that opens at one cursor opens at every cursor, whatever its bytes; and then each question is what it asks
-- after its opening. So a walk of many questions has to open the document once.
use mathlib.Core.Path.{◌≡◌, ◌∙◌}
use mathlib.Core.List.{List}
use Prim.Native.Nat.{ℕ}
use Rattle.json_model.specs.Reading.{Reading, ask, answers, ◌>>◌}
use Rattle.json_model.proofs.Reading.{step, passed, need_done, need_yes, then, pass}
use Rattle.binary_json_rules.specs.Questions.{opening, kind_here, kind_and_size, element_here, element, member_here, member_at, text_named, slot_text, type_here, entry_type, container_here, container_at, string_here, string_at, number_here, number_at}
use Rattle.binary_json_rules.specs.Lookup.{quick_here, quick_lookup, scan_here, plain_scan}

pub opens_everywhere : (doc : List ℕ) (c d : ℕ) → ask (opening doc c) ≡ answers tt → ask (opening doc d) ≡ answers tt
unfolding opening
opens_everywhere doc c d e =
    let s = step _ _ tt e in
    let p = passed _ _ _ _ tt s.rest in
    then _ _ tt s.first ∙ (pass _ _ _ _ tt p.test ∙ need_yes _ _ _ tt (need_done _ _ _ tt p.rest))

-- the document has opened at the cursor c; it is asked at d
module _ (doc : List ℕ) (c d : ℕ) (opened : ask (opening doc c) ≡ answers tt) where
  once : {A : Type 0} (rest : Reading (Unit {0}) A) → ask (opening doc d >> rest) ≡ ask rest
  once rest = then _ _ tt (opens_everywhere doc c d opened)

  pub kind_once : ask (kind_and_size doc d) ≡ ask (kind_here doc d)
  unfolding kind_and_size
  kind_once = once (kind_here doc d)

  pub element_once : (i : ℕ) → ask (element doc d i) ≡ ask (element_here doc d i)
  unfolding element
  element_once i = once (element_here doc d i)

  pub member_once : (j : ℕ) → ask (member_at doc d j) ≡ ask (member_here doc d j)
  unfolding member_at
  member_once j = once (member_here doc d j)

  pub slot_once : ask (slot_text doc d) ≡ ask (text_named doc d d)
  unfolding slot_text
  slot_once = once (text_named doc d d)

  pub type_once : ask (entry_type doc d) ≡ ask (type_here doc d)
  unfolding entry_type
  type_once = once (type_here doc d)

  pub container_once : ask (container_at doc d) ≡ ask (container_here doc d)
  unfolding container_at
  container_once = once (container_here doc d)

  pub string_once : ask (string_at doc d) ≡ ask (string_here doc d)
  unfolding string_at
  string_once = once (string_here doc d)

  pub number_once : ask (number_at doc d) ≡ ask (number_here doc d)
  unfolding number_at
  number_once = once (number_here doc d)

  pub quick_lookup_once : (x : List ℕ) → ask (quick_lookup doc d x) ≡ ask (quick_here doc d x)
  unfolding quick_lookup
  quick_lookup_once x = once (quick_here doc d x)

  pub plain_scan_once : (x : List ℕ) → ask (plain_scan doc d x) ≡ ask (scan_here doc d x)
  unfolding plain_scan
  plain_scan_once x = once (scan_here doc d x)
