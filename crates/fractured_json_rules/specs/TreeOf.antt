-- Where each value of a Fractured JSON document ends, by its bytes alone, and the tree of a document with a key list,
-- computed: docs/format/FRACTURED_JSON.md, section 8. Both are meant for accepted documents; of any other they say
-- nothing.
use Rattle.std.specs.Prelude.{ℕ, zero, suc, ◌+◌, ◌-◌, ◌*◌, List, [], ltb, get_or}
use Rattle.json_model.specs.Bytes.{number, part}
use Rattle.json_model.specs.Reading.{kept_of}
use Rattle.json_model.specs.Choose.{choose}
use Rattle.json_model.specs.Limits.{deepest}
use Rattle.json_model.specs.Number.{float_tree}
use Rattle.json_model.specs.Tree.{Tree, null, bool, str, arr, obj, Trees, none, more, Members, end, member}
use Rattle.fractured_json_rules.specs.ByteTables.{bytes, Len, tiny, after, Form, f_null, f_bool, f_int, f_float, f_tiny, f_string, f_object, f_array, f_reserved, form_of, KeyNumber, in_byte, spelled, KeyForm, immediate, back_reference, global_index, k_reserved, key_form_of}
use Rattle.fractured_json_rules.specs.Meaning.{no_key, Keys, key_text, after_length, int_tree, tiny_tree}
use Rattle.fractured_json_rules.specs.KeyList.{steps, name_of}
use Rattle.fractured_json_rules.specs.Verdict.{Numeral, numeral, verdict}

-- ---- ends

abbrev pub length_in : List ℕ → ℕ → Len → ℕ
length_in doc o (tiny n) = n
length_in doc o (after w) = number doc (o + 1) (bytes w)

-- a v_uint16 after the byte at o, whose bytes are b0, b1 and b2
unfoldable pub spelled_in : ℕ → ℕ → ℕ → ℕ → Numeral
spelled_in o b0 b1 b2 =
    choose (ltb b0 128) (numeral b0 (o + 2))
    (choose (ltb b1 128) (numeral (b0 - 128 + 128 * b1) (o + 3))
    (numeral (b0 - 128 + 128 * (b1 - 128) + 16_384 * b2) (o + 4)))

-- the number that the key byte at o carries, and where that ends
abbrev pub key_number_in : List ℕ → ℕ → KeyNumber → Numeral
key_number_in doc o (in_byte n) = numeral n (o + 1)
key_number_in doc o spelled = spelled_in o (get_or doc (o + 1) 0) (get_or doc (o + 2) 0) (get_or doc (o + 3) 0)

abbrev pub key_end_by : List ℕ → ℕ → KeyForm → ℕ
key_end_by doc o (immediate x) = (key_number_in doc o x).past + (key_number_in doc o x).is
key_end_by doc o (back_reference x) = (key_number_in doc o x).past
key_end_by doc o (global_index x) = (key_number_in doc o x).past
key_end_by doc o k_reserved = o

-- where the key at o ends, and so its value starts
unfoldable pub key_end : List ℕ → ℕ → ℕ
key_end doc o = key_end_by doc o (key_form_of (get_or doc o 0))

unfoldable pub end_by : List ℕ → (ℕ → ℕ) → ℕ → Form → ℕ
end_by doc inner o f_null = o + 1
end_by doc inner o (f_bool b) = o + 1
end_by doc inner o (f_int s w) = o + 1 + bytes w
end_by doc inner o (f_float f w) = o + 1 + bytes w
end_by doc inner o (f_tiny b) = o + 1
end_by doc inner o (f_string x) = after_length o x + length_in doc o x
end_by doc inner o (f_object x) = steps (λ m. inner (key_end doc m)) (length_in doc o x) (after_length o x)
end_by doc inner o (f_array x) = steps inner (length_in doc o x) (after_length o x)
end_by doc inner o f_reserved = o

-- where the value at o ends, in which containers are nested so many levels deep or less
unfoldable pub end_at : ℕ → List ℕ → ℕ → ℕ
end_at zero doc o = end_by doc (λ m. m) o (form_of (get_or doc o 0))
end_at (suc levels) doc o = end_by doc (end_at levels doc) o (form_of (get_or doc o 0))

-- ---- the tree, with a key list; ks are all the immediate keys of the document

abbrev pub key_text_by : List ℕ → List ℕ → Keys → ℕ → KeyForm → List ℕ
key_text_by doc list ks o (immediate x) = part doc (key_number_in doc o x).past (key_number_in doc o x).is
key_text_by doc list ks o (back_reference x) = key_text doc (get_or ks (key_number_in doc o x).is no_key)
key_text_by doc list ks o (global_index x) = key_text list (name_of list (key_number_in doc o x).is)
key_text_by doc list ks o k_reserved = []

unfoldable pub key_text_at : List ℕ → List ℕ → Keys → ℕ → List ℕ
key_text_at doc list ks o = key_text_by doc list ks o (key_form_of (get_or doc o 0))

-- n values from o on, and n members; `tree` and `past` are of the value at an offset
unfoldable pub value_trees : (ℕ → Tree) → (ℕ → ℕ) → ℕ → ℕ → Trees
value_trees tree past zero o = none
value_trees tree past (suc n) o = more (tree o) (value_trees tree past n (past o))

unfoldable pub member_trees : List ℕ → List ℕ → Keys → (ℕ → Tree) → (ℕ → ℕ) → ℕ → ℕ → Members
member_trees doc list ks tree past zero o = end
member_trees doc list ks tree past (suc n) o = member (key_text_at doc list ks o) (tree (key_end doc o)) (member_trees doc list ks tree past n (past (key_end doc o)))

unfoldable pub tree_by : List ℕ → List ℕ → Keys → (ℕ → Tree) → (ℕ → ℕ) → ℕ → Form → Tree
tree_by doc list ks tree past o f_null = null
tree_by doc list ks tree past o (f_bool b) = bool b
tree_by doc list ks tree past o (f_int s w) = int_tree s w (number doc (o + 1) (bytes w))
tree_by doc list ks tree past o (f_float f w) = float_tree f (number doc (o + 1) (bytes w))
tree_by doc list ks tree past o (f_tiny b) = tiny_tree b
tree_by doc list ks tree past o (f_string x) = str (part doc (after_length o x) (length_in doc o x))
tree_by doc list ks tree past o (f_object x) = obj (member_trees doc list ks tree past (length_in doc o x) (after_length o x))
tree_by doc list ks tree past o (f_array x) = arr (value_trees tree past (length_in doc o x) (after_length o x))
tree_by doc list ks tree past o f_reserved = null

unfoldable pub tree_at : ℕ → List ℕ → List ℕ → Keys → ℕ → Tree
tree_at zero doc list ks o = tree_by doc list ks (λ m. null) (λ m. m) o (form_of (get_or doc o 0))
tree_at (suc levels) doc list ks o = tree_by doc list ks (tree_at levels doc list ks) (end_at levels doc) o (form_of (get_or doc o 0))

-- the tree of a document and a key list whose check has room for so many keys
unfoldable pub tree_of : ℕ → List ℕ → List ℕ → Tree
tree_of room doc list = tree_at deepest doc list (kept_of (verdict room doc list)) 3
