-- The words of a compound, and what each one is.
use Rattle.std.specs.Prelude.{◌≡◌, Option, MatchOption, ℕ, Bool, true, false, ◌&&◌, ◌||◌, ◌==◌, nat_le, List, [], ◌∷◌, length, drop, slice_index, codes, not, if◌then◌else◌, map, filter, reverse, bytes_eq}
use Rattle.std.specs.List.{list_all, list_any, slice_split}
use Rattle.salt_value.specs.Id.{is_id_byte}
use Rattle.target_tree.specs.declared.token.Token.{Token}
use Rattle.target_tree.specs.declared.token.Token.TheVariants.{AndWord, OrWord, NotWord, OpenWord, CloseWord, Leaf, Pattern, Nodegroup, NoLetter, NoLeaf}
use Rattle.target_tree.specs.declared.target.Target.TheVariants.{IdGlob, IdPcre, IdList, GrainGlob, GrainPcre, PillarGlob, PillarPcre}

-- there is a byte
abbrev pub is_not_empty : List ℕ → Bool
is_not_empty [] = false
is_not_empty (b ∷ bytes) = true

-- the words of a text: its parts between spaces that have a byte
abbrev pub words_of : List ℕ → List (List ℕ)
words_of text = filter is_not_empty (slice_split (λ b. b == 32) text)

-- without the spaces in front
abbrev pub without_spaces : List ℕ → List ℕ
without_spaces [] = []
without_spaces (b ∷ bytes) = if b == 32 then without_spaces bytes else b ∷ bytes

-- without the spaces at both ends
abbrev pub trimmed_item : List ℕ → List ℕ
trimmed_item item = reverse (without_spaces (reverse (without_spaces item)))

-- 1 to 64 bytes that ids have
abbrev pub is_id : List ℕ → Bool
is_id bytes = nat_le 1 (length bytes) && nat_le (length bytes) 64 && list_all is_id_byte bytes

-- The id that an item of a list is, and none where it is no id. No public contract cites it.
abbrev pub IsIdOf : List ℕ → Option (List ℕ) → Type 0
IsIdOf item found = MatchOption found (is_id (trimmed_item item) ≡ false) (λ id. (id ≡ trimmed_item item) × (is_id id ≡ true))

-- the items of a list, between commas
unfoldable pub list_items : List ℕ → List (List ℕ)
list_items text = map trimmed_item (slice_split (λ b. b == 44) text)

-- a list of ids, and no leaf where an item is no id
unfoldable pub id_list : List ℕ → Token
id_list text = if list_all is_id (list_items text) then Leaf (IdList (list_items text)) else NoLeaf

-- the leaf of a letter, by the text after its @
unfoldable pub letter_leaf : ℕ → List ℕ → Token
letter_leaf letter text =
    -- G
    if letter == 71 then Leaf (GrainGlob text)
    -- E
    else if letter == 69 then Pattern (IdPcre text)
    -- P
    else if letter == 80 then Pattern (GrainPcre text)
    -- L
    else if letter == 76 then id_list text
    -- I
    else if letter == 73 then Leaf (PillarGlob text)
    -- J
    else if letter == 74 then Pattern (PillarPcre text)
    -- N
    else if letter == 78 then Nodegroup text
    else NoLetter

-- one of the letters G, E, P, L, I, J and N
abbrev pub is_kind_letter : ℕ → Bool
is_kind_letter letter =
    letter == 71 || letter == 69 || letter == 80 || letter == 76 || letter == 73 || letter == 74 || letter == 78

-- an ASCII capital and an @ stand in front
abbrev pub is_lettered : List ℕ → Bool
is_lettered word = (nat_le 65 (slice_index word 0) && nat_le (slice_index word 0) 90) && slice_index word 1 == 64

-- `(` or `)`
abbrev pub is_paren : ℕ → Bool
is_paren b = b == 40 || b == 41

-- a word that is an operand, or should be: nothing after the @ of a letter is no leaf, and a parenthesis in an id glob neither
unfoldable pub operand_token : List ℕ → Token
operand_token word =
    if is_lettered word then
    (if is_not_empty (drop 2 word) || not (is_kind_letter (slice_index word 0)) then letter_leaf (slice_index word 0) (drop 2 word) else NoLeaf)
    else if list_any is_paren word then NoLeaf
    else Leaf (IdGlob word)

-- what a word is
unfoldable pub token : List ℕ → Token
token word =
    if bytes_eq word (codes "and") then AndWord
    else if bytes_eq word (codes "or") then OrWord
    else if bytes_eq word (codes "not") then NotWord
    else if bytes_eq word (codes "(") then OpenWord
    else if bytes_eq word (codes ")") then CloseWord
    else operand_token word

-- what the words of a text are
unfoldable pub tokens_of : List ℕ → List Token
tokens_of text = map token (words_of text)
