-- Examples that hold the definitions of this crate to what docs/format says: most are computed from them; of a
-- relation, what it holds of and what it does not is proved.
use Prim.Native.Nat.{ℕ, zero, suc, ◌+◌, ◌-◌, ◌*◌, ◌^◌}
use mathlib.Core.Bool.{true, false}
use mathlib.Core.List.{List, [], ◌∷◌, map}
use mathlib.Core.Path.{◌≡◌, refl}
use native.Mathlib.Omega.{arith}
use Rattle.json_model.specs.Bytes.{Bytes, number, low_field, high_field, part, hex}
use Rattle.json_model.specs.Choose.{choose}
use Rattle.json_model.specs.Limits.{least_binary, least_fractured, longest, deepest, most_keys, longest_line, bench_marks, bench_keys}
use Rattle.json_model.specs.Number.{binary32, binary64, negative, finite, magnitude, float_tree, whole_tree, signed_tree}
use Rattle.json_model.specs.Reading.{halt, done, answer, refuse, follow, ◌>>=◌, ◌>>◌, need, kept, keep, ask, answers, refuses, kept_of, verdict_of, told}
use Rattle.json_model.specs.Span.{spanned}
use Rattle.json_model.specs.Texts.{by_numbers, compare_numbers, compare_texts, is_below, is_equal}
use Rattle.json_model.specs.Tree.{Tree, null, bool, num, str, arr, obj, Trees, none, more, Members, end, member, size, sizem, depth, depths, depthm, ElementIs, MemberIs, Lacks}
use Rattle.json_model.specs.Tree.{IsContainer, NoContainer, NoNumber, NoString, NoArray, NoObject, Subtree, whole}
use Rattle.json_model.specs.Tree as Tree
use Rattle.json_model.specs.Node.{s_null, s_bool, s_num, s_str, Node, leaf, list, dict, Nodes, nil, cons, Fields, last, field, place, bare, NodeIs, FieldIs, Within, itself, element, value}
use Rattle.std.specs.declared.cmp.Ordering.TheVariants.{Less, Equal, Greater}
use Rattle.std.specs.Prelude.{Ok, Err}

-- ---- bytes

-- the bytes of a number, highest first; all other examples are written with it
pub hex_is : (hex 3 0x464A01 ≡ 0x46 ∷ 0x4A ∷ 0x01 ∷ []) × (hex 4 0xFF00FE80 ≡ 0xFF ∷ 0x00 ∷ 0xFE ∷ 0x80 ∷ []) × (hex 2 0x123456 ≡ 0x34 ∷ 0x56 ∷ []) × (hex 0 7 ≡ [])
hex_is = (refl, refl, refl, refl)

-- little endian; nothing stands beyond the end; the five-bit field is the lower one
pub little_endian :
    (number (hex 4 0x78563412) 0 4 ≡ 0x12345678) × (number (hex 3 0xFF0201) 1 2 ≡ 0x0102) × (number (hex 2 0xFFFF) 1 3 ≡ 0xFF) × (number (hex 2 0xFFFF) 0 0 ≡ 0)
    × (low_field 5 0x81 ≡ 1) × (high_field 5 0x81 ≡ 4) × (low_field 5 0xFFFFFFFF ≡ 31) × (high_field 5 0xFFFFFFFF ≡ 0x7FFFFFF)
unfolding number
little_endian = (refl, refl, refl, refl, refl, refl, refl, refl)

-- the bytes from a place on, as many as there are
pub parts_are :
    (part (hex 4 0x01020304) 1 2 ≡ hex 2 0x0203) × (part (hex 4 0x01020304) 0 4 ≡ hex 4 0x01020304) × (part (hex 4 0x01020304) 3 2 ≡ hex 1 0x04) × (part (hex 4 0x01020304) 4 1 ≡ [])
    × (part (hex 4 0x01020304) 2 0 ≡ [])
parts_are = (refl, refl, refl, refl, refl)

-- 255 is a byte and 256 is none
all_bytes : Bytes (hex 2 0x00FF)
all_bytes zero = omega arith
all_bytes (suc zero) = omega arith
all_bytes (suc (suc i)) = omega arith

pub bytes_are : Bytes (hex 2 0x00FF) × (Bytes (256 ∷ []) → ⊥) × (Bytes (0 ∷ 256 ∷ []) → ⊥)
bytes_are = (all_bytes, (λ h. let e = h 0 in omega arith), (λ h. let e = h 1 in omega arith))

-- the text of an answer is that part of the document; a refusal has none
pub spans_are :
    (spanned (hex 4 0x01020304) (answers (record { place = 1; len = 2 })) ≡ hex 2 0x0203) × (spanned (hex 4 0x01020304) (answers (record { place = 3; len = 1 })) ≡ hex 1 0x04)
    × (spanned (hex 4 0x01020304) (refuses 20 1) ≡ [])
spans_are = (refl, refl, refl)

-- ---- choices and readings

pub chosen : (choose {A = ℕ} true 1 2 ≡ 1) × (choose {A = ℕ} false 1 2 ≡ 2)
unfolding choose
chosen = (refl, refl)

-- a rule that fails stops with its number and place; one that passes says nothing
pub rules_stop :
    (need {S = ℕ} true 5 16 9 ≡ done tt 9) × (need {S = ℕ} false 5 16 9 ≡ halt 5 16 9) × (refuse {S = ℕ} {A = ℕ} 5 16 9 ≡ halt 5 16 9) × (answer {S = ℕ} {A = ℕ} 7 9 ≡ done 7 9)
    × (refuses {A = ℕ} 5 16 ≡ halt 5 16 tt) × (answers {A = ℕ} 7 ≡ done 7 tt) × (ask {A = ℕ} (refuse 5 16) ≡ halt 5 16 tt) × (ask {A = ℕ} (answer 7) ≡ done 7 tt)
unfolding need
rules_stop = (refl, refl, refl, refl, refl, refl, refl, refl)

-- the first that fails wins; what is kept is known either way, and a later reading starts from it
pub first_wins :
    ((need {S = ℕ} false 5 16 >> need false 6 20) 9 ≡ halt 5 16 9) × ((need {S = ℕ} true 5 16 >> need false 6 20) 9 ≡ halt 6 20 9) × ((need {S = ℕ} true 5 16 >> need true 6 20) 9 ≡ done tt 9)
    × ((keep {S = ℕ} 4 >> refuse {A = ℕ} 6 20) 9 ≡ halt 6 20 4) × ((keep {S = ℕ} 4 >> kept) 9 ≡ done 4 4) × (kept {S = ℕ} 9 ≡ done 9 9)
    × ((answer {S = ℕ} {A = ℕ} 7 >>= λ a. answer {A = ℕ} (2 * a)) 9 ≡ done 14 9) × ((refuse {S = ℕ} {A = ℕ} 5 16 >>= λ a. answer {A = ℕ} (2 * a)) 9 ≡ halt 5 16 9)
unfolding need ◌>>=◌ follow
first_wins = (refl, refl, refl, refl, refl, refl, refl, refl)

-- without what is kept, and what is kept alone
pub said_and_kept :
    (verdict_of {S = ℕ} {A = ℕ} (halt 5 16 9) ≡ halt 5 16 tt) × (verdict_of {S = ℕ} {A = ℕ} (done 7 9) ≡ done 7 tt) × (kept_of {S = ℕ} {A = ℕ} (halt 5 16 9) ≡ 9)
    × (kept_of {S = ℕ} {A = ℕ} (done 7 9) ≡ 9)
said_and_kept = (refl, refl, refl, refl)

-- both cases of the code's verdict
pub verdicts_say : (told (Ok tt) ≡ done tt tt) × (told (Err (record { place = 16; number = 5 })) ≡ halt 5 16 tt)
verdicts_say = (refl, refl)

-- ---- texts

pub numbers_compare :
    (map (compare_numbers 5) (4 ∷ 5 ∷ 6 ∷ []) ≡ Greater ∷ Equal ∷ Less ∷ []) × (by_numbers 5 4 Less ≡ Greater) × (by_numbers 5 5 Less ≡ Less) × (by_numbers 5 5 Greater ≡ Greater)
    × (by_numbers 5 6 Greater ≡ Less)
unfolding by_numbers choose
numbers_compare = (refl, refl, refl, refl, refl)

-- as unsigned bytes, the first that differs decides, a prefix before the longer, zeros inside are bytes
pub texts_compare :
    (compare_texts (hex 1 0x80) (hex 1 0x7F) ≡ Greater) × (compare_texts (hex 1 0x7F) (hex 1 0x80) ≡ Less) × (compare_texts (hex 1 0x61) (hex 2 0x6100) ≡ Less)
    × (compare_texts (hex 2 0x6100) (hex 1 0x61) ≡ Greater) × (compare_texts (hex 3 0x610062) (hex 3 0x610061) ≡ Greater) × (compare_texts (hex 2 0x6100) (hex 2 0x6100) ≡ Equal)
    × (compare_texts (hex 2 0x6163) (hex 2 0x6261) ≡ Less) × (compare_texts (hex 2 0x6261) (hex 3 0x616263) ≡ Greater) × (compare_texts [] [] ≡ Equal) × (compare_texts [] (hex 1 0x00) ≡ Less)
unfolding compare_texts by_numbers choose
texts_compare = (refl, refl, refl, refl, refl, refl, refl, refl, refl, refl)

pub orders_are : (map is_below (Less ∷ Equal ∷ Greater ∷ []) ≡ true ∷ false ∷ false ∷ []) × (map is_equal (Less ∷ Equal ∷ Greater ∷ []) ≡ false ∷ true ∷ false ∷ [])
orders_are = (refl, refl)

-- ---- numbers

-- 2 ^ 1074 times the value, and its sign: the least and the greatest of both formats, the least with a leading digit, one and its neighbours;
-- zero has two signs
pub floats_are :
    map (float_tree binary64) (0 ∷ 1 ∷ 0x000FFFFFFFFFFFFF ∷ 0x0010000000000000 ∷ 0x0020000000000001 ∷ 0x3FF0000000000000 ∷ 0x3FF0000000000001 ∷ 0x7FEFFFFFFFFFFFFF ∷ [])
    ≡ num false 0 ∷ num false 1 ∷ num false (2 ^ 52 - 1) ∷ num false (2 ^ 52) ∷ num false (2 * (2 ^ 52 + 1)) ∷ num false (2 ^ 1074) ∷ num false ((2 ^ 52 + 1) * 2 ^ 1022)
    ∷ num false ((2 ^ 53 - 1) * 2 ^ 2045) ∷ []
unfolding float_tree magnitude
floats_are = refl

pub floats_below_zero :
    map (float_tree binary64) (0x8000000000000000 ∷ 0x8000000000000001 ∷ 0xBFF0000000000000 ∷ 0xFFEFFFFFFFFFFFFF ∷ [])
    ≡ num true 0 ∷ num true 1 ∷ num true (2 ^ 1074) ∷ num true ((2 ^ 53 - 1) * 2 ^ 2045) ∷ []
unfolding float_tree magnitude
floats_below_zero = refl

pub short_floats_are :
    map (float_tree binary32) (0 ∷ 1 ∷ 0x007FFFFF ∷ 0x00800000 ∷ 0x01000001 ∷ 0x3F800000 ∷ 0x7F7FFFFF ∷ 0x80000000 ∷ 0xBF800000 ∷ 0xFF7FFFFF ∷ [])
    ≡ num false 0 ∷ num false (2 ^ 925) ∷ num false ((2 ^ 23 - 1) * 2 ^ 925) ∷ num false (2 ^ 948) ∷ num false ((2 ^ 23 + 1) * 2 ^ 926) ∷ num false (2 ^ 1074)
    ∷ num false ((2 ^ 24 - 1) * 2 ^ 1178) ∷ num true 0 ∷ num true (2 ^ 1074) ∷ num true ((2 ^ 24 - 1) * 2 ^ 1178) ∷ []
unfolding float_tree magnitude
short_floats_are = refl

pub wholes_are : map whole_tree (0 ∷ 1 ∷ 0xFFFFFFFFFFFFFFFF ∷ []) ≡ num false 0 ∷ num false (2 ^ 1074) ∷ num false (0xFFFFFFFFFFFFFFFF * 2 ^ 1074) ∷ []
unfolding whole_tree
wholes_are = refl

-- the two's complement: the greatest, the least, minus one
pub signed_are :
    (map (signed_tree 8) (0 ∷ 0x7F ∷ 0x80 ∷ 0xFF ∷ []) ≡ num false 0 ∷ num false (127 * 2 ^ 1074) ∷ num true (128 * 2 ^ 1074) ∷ num true (2 ^ 1074) ∷ [])
    × (map (signed_tree 16) (0x7FFF ∷ 0x8000 ∷ 0xFFFF ∷ []) ≡ num false (32_767 * 2 ^ 1074) ∷ num true (32_768 * 2 ^ 1074) ∷ num true (2 ^ 1074) ∷ [])
unfolding signed_tree whole_tree choose
signed_are = (refl, refl)

-- the same numbers in other spellings
pub numbers_are :
    (float_tree binary64 0x3FF0000000000000 ≡ whole_tree 1) × (float_tree binary32 0xC0000000 ≡ signed_tree 8 254) × (signed_tree 16 0x7FFF ≡ whole_tree 32_767)
    × (float_tree binary32 1 ≡ float_tree binary64 0x36A0000000000000) × (float_tree binary64 0x8000000000000000 ≡ num true 0) × (whole_tree 0 ≡ num false 0)
unfolding float_tree magnitude whole_tree signed_tree choose
numbers_are = (refl, refl, refl, refl, refl, refl)

-- the sign is the highest bit, also of what stands for no number
pub signs_are :
    (map (negative binary64) (0 ∷ 0x7FFFFFFFFFFFFFFF ∷ 0x8000000000000000 ∷ 0xFFFFFFFFFFFFFFFF ∷ []) ≡ false ∷ false ∷ true ∷ true ∷ [])
    × (map (negative binary32) (0 ∷ 0x7FFFFFFF ∷ 0x80000000 ∷ 0xFFFFFFFF ∷ []) ≡ false ∷ false ∷ true ∷ true ∷ [])
    × (map (float_tree binary64) (0x7FFFFFFFFFFFFFFF ∷ 0xFFFFFFFFFFFFFFFF ∷ []) ≡ num false ((2 ^ 53 - 1) * 2 ^ 2046) ∷ num true ((2 ^ 53 - 1) * 2 ^ 2046) ∷ [])
unfolding float_tree magnitude
signs_are = (refl, refl, refl)

-- an exponent of all ones stands for no number, whatever the sign and the fraction
pub numbers_finite :
    (map (finite binary64) (0 ∷ 0x7FEFFFFFFFFFFFFF ∷ 0xFFEFFFFFFFFFFFFF ∷ 0x7FF0000000000000 ∷ 0xFFF0000000000000 ∷ 0x7FF8000000000000 ∷ 0x7FFFFFFFFFFFFFFF ∷ [])
    ≡ true ∷ true ∷ true ∷ false ∷ false ∷ false ∷ false ∷ [])
    × (map (finite binary32) (0 ∷ 0x7F7FFFFF ∷ 0xFF7FFFFF ∷ 0x7F800000 ∷ 0xFF800000 ∷ 0x7FFFFFFF ∷ []) ≡ true ∷ true ∷ true ∷ false ∷ false ∷ false ∷ [])
unfolding finite
numbers_finite = (refl, refl)

-- ---- trees

-- [1, {"a": [], "b": {}}]
abbrev tree : Tree
tree = arr (more (num false (2 ^ 1074)) (more (obj (member (hex 1 0x61) (arr none) (member (hex 1 0x62) (obj end) end))) none))

-- its containers are nested 3 deep; a scalar has none; the deepest value counts, wherever it stands
pub nesting :
    (map depth (tree ∷ null ∷ bool true ∷ num true 7 ∷ str [] ∷ arr none ∷ obj end ∷ []) ≡ 3 ∷ 0 ∷ 0 ∷ 0 ∷ 0 ∷ 1 ∷ 1 ∷ [])
    × (map depth (arr (more (arr none) (more null none)) ∷ arr (more null (more (obj end) none)) ∷ arr (more null none) ∷ []) ≡ 2 ∷ 2 ∷ 1 ∷ [])
    × (map depth (obj (member [] (arr none) (member [] null end)) ∷ obj (member [] null (member [] (obj end) end)) ∷ obj (member [] null end) ∷ []) ≡ 2 ∷ 2 ∷ 1 ∷ [])
nesting = (refl, refl, refl)

pub sizes_are : (map size (none ∷ more null (more null none) ∷ []) ≡ 0 ∷ 2 ∷ []) × (map sizem (end ∷ member [] null (member [] null end) ∷ []) ≡ 0 ∷ 2 ∷ [])
sizes_are = (refl, refl)

-- [null, []]: value 0 is null and no other, value 1 is [], and there is no value 2
abbrev two : Trees
two = more null (more (arr none) none)

pub elements_are :
    ElementIs two 0 null × ElementIs two 1 (arr none) × (ElementIs two 0 (arr none) → ⊥) × (ElementIs two 1 null → ⊥) × (ElementIs two 2 (arr none) → ⊥) × (ElementIs none 0 null → ⊥)
elements_are = (
  refl,
  refl,
  (λ h. let e : ◌≡◌ {A = ℕ} 0 1 = cc in omega arith),
  (λ h. let e : ◌≡◌ {A = ℕ} 0 1 = cc in omega arith),
  (λ h. h),
  (λ h. h),
)

-- {"a": null, "b": []}: a member by its number, with its own key and its own value
abbrev pair : Members
pair = member (hex 1 0x61) null (member (hex 1 0x62) (arr none) end)

pub members_are :
    MemberIs pair 0 (hex 1 0x61) null × MemberIs pair 1 (hex 1 0x62) (arr none) × (MemberIs pair 0 (hex 1 0x62) null → ⊥) × (MemberIs pair 0 (hex 1 0x61) (arr none) → ⊥)
    × (MemberIs pair 1 (hex 1 0x61) (arr none) → ⊥) × (MemberIs pair 2 (hex 1 0x62) (arr none) → ⊥)
members_are = (
  (refl, refl),
  (refl, refl),
  (λ h. let k = h.0 in let e : ◌≡◌ {A = ℕ} 0x62 0x61 = cc in omega arith),
  (λ h. let v = h.1 in let e : ◌≡◌ {A = ℕ} 0 1 = cc in omega arith),
  (λ h. let k = h.0 in let e : ◌≡◌ {A = ℕ} 0x61 0x62 = cc in omega arith),
  (λ h. h),
)

-- it has no member "c", and does not lack "b"
lacks_c : Lacks pair (hex 1 0x63)
lacks_c zero v h = let k = h.0 in let e : ◌≡◌ {A = ℕ} 0x63 0x61 = cc in omega arith
lacks_c (suc zero) v h = let k = h.0 in let e : ◌≡◌ {A = ℕ} 0x63 0x62 = cc in omega arith
lacks_c (suc (suc j)) v h = h

pub lacked : Lacks pair (hex 1 0x63) × (Lacks pair (hex 1 0x61) → ⊥) × (Lacks pair (hex 1 0x62) → ⊥)
lacked = (lacks_c, (λ h. h 0 null (refl, refl)), (λ h. h 1 (arr none) (refl, refl)))

-- what a tree is not
differ : ◌≡◌ {A = ℕ} 0 1 → ⊥
differ e = omega arith

pub no_container :
    NoContainer null × NoContainer (bool true) × NoContainer (num false 0) × NoContainer (str []) × (NoContainer (arr none) → ⊥) × (NoContainer (obj end) → ⊥) × IsContainer (arr none) × IsContainer (obj end)
no_container = ((λ h. h), (λ h. h), (λ h. h), (λ h. h), (λ h. h tt), (λ h. h tt), tt, tt)

pub other_kinds :
    NoNumber (str []) × (NoNumber (num true 7) → ⊥) × NoString (num true 7) × (NoString (str (hex 1 0x61)) → ⊥) × NoArray (obj end) × (NoArray (arr two) → ⊥) × NoObject (arr none)
    × (NoObject (obj pair) → ⊥)
other_kinds = (
  (λ s m h. differ cc),
  (λ h. h true 7 refl),
  (λ x h. differ cc),
  (λ h. h (hex 1 0x61) refl),
  (λ ts h. differ cc),
  (λ h. h two refl),
  (λ ms h. differ cc),
  (λ h. h pair refl),
)

-- the subtrees of [{"a": []}] are itself, {"a": []} and []; so neither null nor [[]] is one
abbrev inner : Members
inner = member (hex 1 0x61) (arr none) end

abbrev outer : Trees
outer = more (obj inner) none

data Among : Tree → Type 0 where
  is_outer : Among (arr outer)
  is_inner : Among (obj inner)
  is_empty : Among (arr none)

among_element : (ts : Trees) (i : ℕ) (u : Tree) → Among (arr ts) → ElementIs ts i u → Among u
among_element ts zero u is_outer h = rw h is_inner
among_element ts (suc i) u is_outer h = absurd h
among_element ts zero u is_empty h = absurd h
among_element ts (suc i) u is_empty h = absurd h

among_value : (ms : Members) (j : ℕ) (k : List ℕ) (u : Tree) → Among (obj ms) → MemberIs ms j k u → Among u
among_value ms zero k u is_inner h = rw h.1 is_empty
among_value ms (suc j) k u is_inner h = absurd h

among : {u : Tree} → Subtree (arr outer) u → Among u
among whole = is_outer
among {u} (Tree.element ts i s h) = among_element ts i u (among s) h
among {u} (Tree.value ms j k s h) = among_value ms j k u (among s) h

no_null : {u : Tree} → Among u → u ≡ null → ⊥
no_null is_outer e = differ cc
no_null is_inner e = differ cc
no_null is_empty e = differ cc

no_nested : {u : Tree} → Among u → u ≡ arr (more (arr none) none) → ⊥
no_nested is_outer e = differ cc
no_nested is_inner e = differ cc
no_nested is_empty e = differ cc

pub subtrees_are :
    Subtree (arr outer) (arr outer) × Subtree (arr outer) (obj inner) × Subtree (arr outer) (arr none) × (Subtree (arr outer) null → ⊥) × (Subtree (arr outer) (arr (more (arr none) none)) → ⊥)
subtrees_are = (
  whole,
  Tree.element outer 0 whole refl,
  Tree.value inner 0 (hex 1 0x61) (Tree.element outer 0 whole refl) (refl, refl),
  (λ h. no_null (among h) refl),
  (λ h. no_nested (among h) refl),
)

-- ---- trees with places

-- the same as `tree` with places: the object's members, its values, and the whole
abbrev fields : Fields
fields = field 20 (hex 1 0x61) (list 36 nil) (field 24 (hex 1 0x62) (dict 40 last) last)

abbrev nodes : Nodes
nodes = cons (leaf 8 (s_num false (2 ^ 1074))) (cons (dict 16 fields) nil)

abbrev node : Node
node = list 4 nodes

-- without its places it is that tree; so are a leaf's four kinds of scalar
pub without_places :
    (bare node ≡ tree) × (bare (leaf 8 s_null) ≡ null) × (bare (leaf 8 (s_bool true)) ≡ bool true) × (bare (leaf 8 (s_str (hex 1 0x61))) ≡ str (hex 1 0x61))
without_places = (refl, refl, refl, refl)

pub places_are : (place node ≡ 4) × (place (dict 16 fields) ≡ 16) × (place (leaf 8 s_null) ≡ 8)
places_are = (refl, refl, refl)

-- value 1 by its number, and it stands at 16; there is no value 2
pub nodes_are :
    NodeIs nodes 1 (dict 16 fields) × NodeIs nodes 0 (leaf 8 (s_num false (2 ^ 1074))) × (NodeIs nodes 1 (dict 20 fields) → ⊥) × (NodeIs nodes 0 (dict 16 fields) → ⊥)
    × (NodeIs nodes 2 (dict 16 fields) → ⊥)
nodes_are = (refl, refl, (λ h. let e : ◌≡◌ {A = ℕ} 20 16 = cc in omega arith), (λ h. differ cc), (λ h. h))

-- member 1 by its number, with its own key, place and value; its key does not stand at 20, and there is no member 2
pub fields_are :
    FieldIs fields 0 20 (hex 1 0x61) (list 36 nil) × FieldIs fields 1 24 (hex 1 0x62) (dict 40 last) × (FieldIs fields 1 20 (hex 1 0x62) (dict 40 last) → ⊥)
    × (FieldIs fields 1 24 (hex 1 0x61) (dict 40 last) → ⊥) × (FieldIs fields 1 24 (hex 1 0x62) (dict 36 last) → ⊥) × (FieldIs fields 2 24 (hex 1 0x62) (dict 40 last) → ⊥)
fields_are = (
  (refl, refl, refl),
  (refl, refl, refl),
  (λ h. let e = h.0 in omega arith),
  (λ h. let k = h.1 in let e : ◌≡◌ {A = ℕ} 0x61 0x62 = cc in omega arith),
  (λ h. let m = h.2 in let e : ◌≡◌ {A = ℕ} 36 40 = cc in omega arith),
  (λ h. h),
)

-- value 1 and member 1 by their numbers; member 1's key does not stand at 20, and there is no value 2 and no member 2
pub in_it :
    NodeIs nodes 1 (dict 16 fields) × FieldIs fields 1 24 (hex 1 0x62) (dict 40 last) × Within node (dict 40 last)
    × (NodeIs nodes 2 (dict 16 fields) → ⊥) × (FieldIs fields 1 20 (hex 1 0x62) (dict 40 last) → ⊥) × (FieldIs fields 2 24 (hex 1 0x62) (dict 40 last) → ⊥)
in_it = (
  refl,
  (refl, refl, refl),
  value 16 fields 1 24 (hex 1 0x62) (element 4 nodes 1 itself refl) (refl, refl, refl),
  (λ h. h),
  (λ h. let e = h.0 in omega arith),
  (λ h. h),
)

-- within [{"a": []}] with places stand itself, {"a": []} at 16 and [] at 36; so no [] at 40
abbrev deep : Fields
deep = field 20 (hex 1 0x61) (list 36 nil) last

abbrev row : Nodes
row = cons (dict 16 deep) nil

data Standing : Node → Type 0 where
  is_row : Standing (list 4 row)
  is_deep : Standing (dict 16 deep)
  is_nil : Standing (list 36 nil)

standing_element : (p : ℕ) (ns : Nodes) (i : ℕ) (m : Node) → Standing (list p ns) → NodeIs ns i m → Standing m
standing_element p ns zero m is_row h = rw h is_deep
standing_element p ns (suc i) m is_row h = absurd h
standing_element p ns zero m is_nil h = absurd h
standing_element p ns (suc i) m is_nil h = absurd h

standing_value : (p : ℕ) (fs : Fields) (j at : ℕ) (k : List ℕ) (m : Node) → Standing (dict p fs) → FieldIs fs j at k m → Standing m
standing_value p fs zero at k m is_deep h = rw h.2 is_nil
standing_value p fs (suc j) at k m is_deep h = absurd h

standing : {m : Node} → Within (list 4 row) m → Standing m
standing itself = is_row
standing {m} (element p ns i w h) = standing_element p ns i m (standing w) h
standing {m} (value p fs j at k w h) = standing_value p fs j at k m (standing w) h

no_nil_at_40 : {m : Node} → Standing m → m ≡ list 40 nil → ⊥
no_nil_at_40 is_row e = differ cc
no_nil_at_40 is_deep e = differ cc
no_nil_at_40 is_nil e = let n : ◌≡◌ {A = ℕ} 36 40 = cc in omega arith

pub within_it : Within (list 4 row) (list 4 row) × Within (list 4 row) (dict 16 deep) × Within (list 4 row) (list 36 nil) × (Within (list 4 row) (list 40 nil) → ⊥)
within_it = (
  itself,
  element 4 row 0 itself refl,
  value 16 deep 0 20 (hex 1 0x61) (element 4 row 0 itself refl) (refl, refl, refl),
  (λ h. no_nil_at_40 (standing h) refl),
)

-- ---- limits

-- the limits of docs/format/REFUSALS.md, section 2
pub limits :
    (least_binary ≡ 12) × (least_fractured ≡ 4) × (longest ≡ 16_777_216) × (deepest ≡ 64) × (most_keys ≡ 4_096) × (longest_line ≡ 32_768) × (bench_marks ≡ 4_094) × (bench_keys ≡ 4_096)
limits = (refl, refl, refl, refl, refl, refl, refl, refl)
