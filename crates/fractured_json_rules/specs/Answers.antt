-- What a tree says to the questions: docs/format/FRACTURED_JSON.md, section 11.6. Its kind with the length of a string
-- or container, and the exact value of a number that is answered by its type byte and 64 bits.
use Rattle.std.specs.Prelude.{ℕ, true, false, length}
use Rattle.json_model.specs.Number.{float_tree, whole_tree, signed_tree}
use Rattle.json_model.specs.Tree.{Tree, null, bool, num, str, arr, obj, size, sizem}
use Rattle.fractured_json_rules.specs.ByteTables.{Form, f_null, f_bool, f_int, f_float, f_tiny, f_string, f_object, f_array, f_reserved, form_of}
use Rattle.fractured_json_rules.specs.Questions.{Kind, is_null, is_false, is_true, is_number, is_string, is_object, is_array, Bits}

unfoldable pub kind_of : Tree → Kind
kind_of null = is_null
kind_of (bool false) = is_false
kind_of (bool true) = is_true
kind_of (num s m) = is_number
kind_of (str t) = is_string (length t)
kind_of (obj ms) = is_object (sizem ms)
kind_of (arr ts) = is_array (size ts)

-- signed and tiny ints are two's complement of 64 bits; a form that is no number stands as null here, which no number is
unfoldable pub value_by : Form → ℕ → Tree
value_by f_null bits = null
value_by (f_bool b) bits = null
value_by (f_int true w) bits = signed_tree 64 bits
value_by (f_int false w) bits = whole_tree bits
value_by (f_float f w) bits = float_tree f bits
value_by (f_tiny b) bits = signed_tree 64 bits
value_by (f_string x) bits = null
value_by (f_object x) bits = null
value_by (f_array x) bits = null
value_by f_reserved bits = null

abbrev pub value_of : Bits → Tree
value_of b = value_by (form_of b.type) b.bits
