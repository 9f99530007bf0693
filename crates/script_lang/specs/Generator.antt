-- The input that a number makes: documents with numbers by chance, and a script that searches, reindexes and cancels while moves come by chance.
use Rattle.std.specs.Prelude.{ℕ, ◌+◌, ◌*◌, ◌/◌, ◌%◌, ◌^◌, List, ◌++◌, codes, decimal}
use Rattle.std.specs.List.{flat_map, range_with_len}
use Rattle.std.specs.Fn.{iterate}

-- the number after this one in a sequence that looks like chance
abbrev pub next_number : ℕ → ℕ
next_number number = (6364136223846793005 * number + 1442695040888963407) % 2 ^ 64

-- ---- the documents

-- the two lines of a document; its rank is the upper 20 bits of a number by chance
unfoldable pub document_lines : (id chance : ℕ) → List ℕ
document_lines id chance = codes "{\"index\":{\"_index\":\"g\",\"_id\":\"" ++ decimal id ++ codes "\"}}\n"
    ++ codes "{\"g\":" ++ decimal (id % 10) ++ codes ",\"r\":" ++ decimal (chance / 2 ^ 44) ++ codes "}\n"

-- the documents with the ids from 0 on, so many; the first has the number after the given one, and each the number after that of the one before
unfoldable pub documents : (number count : ℕ) → List ℕ
documents number count = flat_map (λ id. document_lines id (iterate next_number (id + 1) number)) (range_with_len 0 count)

-- ---- the script

unfoldable pub search_line : (node : ℕ) → List ℕ
search_line node = codes "{\"search\":{\"index\":\"g\",\"node\":\"n" ++ decimal node ++ codes "\",\"body\":{\"sort\":[\"r\"],\"size\":5}}}\n"

unfoldable pub reindex_line : (group : ℕ) → List ℕ
reindex_line group = codes "{\"reindex\":{\"body\":{\"source\":{\"index\":\"g\",\"query\":{\"term\":{\"g\":" ++ decimal group ++ codes "}}},\"dest\":{\"index\":\"h\"}},\"slices\":2}}\n"

unfoldable pub shuffle_line : (seed : ℕ) → List ℕ
shuffle_line seed = codes "{\"shuffle\":{\"seed\":" ++ decimal seed ++ codes ",\"moves\":40}}\n"

unfoldable pub cancel_line : List ℕ
cancel_line = codes "{\"cancel\":{\"actions\":\"*reindex*\",\"wait_for_completion\":true}}\n"

-- a round: a search by rank on one of three nodes, a reindex of one group, moves by chance, and a cancel of every reindex, which waits
unfoldable pub round_lines : (number round : ℕ) → List ℕ
round_lines number round = search_line (1 + round % 3) ++ reindex_line (round % 10) ++ shuffle_line ((number + round) % 2 ^ 64) ++ cancel_line

-- the rounds from 1 on, so many
unfoldable pub rounds : (number count : ℕ) → List ℕ
rounds number count = flat_map (round_lines number) (range_with_len 1 count)

-- before the rounds a search for one group, alone
unfoldable pub first_lines : List ℕ
first_lines = codes "--\n{\"search\":{\"index\":\"g\",\"body\":{\"query\":{\"term\":{\"g\":3}},\"size\":0}}}\n{\"settle\":true}\n"

-- after them a reindex of one group, alone, the list of what is left, and a summary
unfoldable pub last_lines : List ℕ
last_lines = codes "{\"settle\":true}\n{\"reindex\":{\"body\":{\"source\":{\"index\":\"g\",\"query\":{\"term\":{\"g\":3}}},\"dest\":{\"index\":\"z\"}}}}\n{\"settle\":true}\n{\"list\":{}}\n{\"summary\":true}\n"

-- ---- all of it

unfoldable pub generated : (number : ℕ) → List ℕ
generated number = documents number 20000 ++ first_lines ++ rounds number 50 ++ last_lines
