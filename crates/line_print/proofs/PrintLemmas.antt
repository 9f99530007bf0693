-- The texts of a reply's parts, as they are appended one after another.
use Rattle.std.proofs.Common.{◌≡◌, ℕ, ◌+◌, ◌-◌, ◌<◌, Bool, true, false, List, [], ◌∷◌, ◌++◌, Option, Some, None, length, get_or, drop, map, codes, refl, sym, ap, ◌∙◌, append_assoc, decimal}
use Rattle.std.proofs.lemmas.List.{drop_more}
use Rattle.json.specs.Print.{quoted, escape_byte}
use Rattle.serde_json.specs.Data.{Data, Items, array, string}
use Rattle.serde_json.specs.View.{items_of}
use Rattle.serde_json.specs.Written.{comma_if, compact_text, items_text}
use Rattle.task_events.specs.declared.reply.Hit.{Hit}
use Rattle.task_events.specs.declared.reply.SearchReply.{SearchReply}
use Rattle.task_events.specs.declared.reply.Counts.{Counts}
use Rattle.line_print.specs.Lines.{error_line, running_json, running_text, status_json, text_line}
use Rattle.task_events.specs.Printed.{hit_json, hits_json, shards_json, search_json, total_json, scroll_member, object_of, reply_line}
use Rattle.task_ids.specs.TaskId.{task_id_text}
use Rattle.task_ids.specs.declared.task_id.TaskId.{TaskId}
use Rattle.line_print.specs.Replies.{opening}

-- parts that were appended in turn are appended as one
pub appended : (o a b c d e f g : List ℕ) → ((((((o ++ a) ++ b) ++ c) ++ d) ++ e) ++ f) ++ g ≡ o ++ (a ++ (b ++ (c ++ (d ++ (e ++ (f ++ g))))))
appended o a b c d e f g = simp append_assoc

hit_parts : (hit : Hit) → codes "{\"_id\":" ++ (quoted hit.doc.id ++ (codes ",\"_index\":" ++ (quoted hit.index ++ (codes ",\"_source\":" ++ (compact_text hit.doc.source ++ codes "}"))))) ≡ compact_text (hit_json hit)
unfolding escape_byte
hit_parts hit = refl

pub hit_text : (hit : Hit) (o : List ℕ)
    → ((((((o ++ codes "{\"_id\":") ++ quoted hit.doc.id) ++ codes ",\"_index\":") ++ quoted hit.index) ++ codes ",\"_source\":") ++ compact_text hit.doc.source) ++ codes "}" ≡ o ++ compact_text (hit_json hit)
hit_text hit o = appended o _ _ _ _ _ _ _ ∙ ap (λ text. o ++ text) (hit_parts hit)

shards_parts : (shards failed : ℕ)
    → codes "{\"failed\":" ++ (decimal failed ++ (codes ",\"successful\":" ++ (decimal (shards - failed) ++ (codes ",\"total\":" ++ (decimal shards ++ codes "}"))))) ≡ compact_text (shards_json shards failed)
unfolding escape_byte
shards_parts shards failed = refl

pub shards_text : (shards failed : ℕ) (o : List ℕ)
    → ((((((o ++ codes "{\"failed\":") ++ decimal failed) ++ codes ",\"successful\":") ++ decimal (shards - failed)) ++ codes ",\"total\":") ++ decimal shards) ++ codes "}" ≡ o ++ compact_text (shards_json shards failed)
shards_text shards failed o = appended o _ _ _ _ _ _ _ ∙ ap (λ text. o ++ text) (shards_parts shards failed)

appended_three : (o a b c : List ℕ) → ((o ++ a) ++ b) ++ c ≡ o ++ (a ++ (b ++ c))
appended_three o a b c = simp append_assoc

total_parts : (total : ℕ) → codes "{\"relation\":\"eq\",\"value\":" ++ (decimal total ++ codes "}") ≡ compact_text (total_json total)
unfolding escape_byte
total_parts total = refl

pub total_text : (total : ℕ) (o : List ℕ) → ((o ++ codes "{\"relation\":\"eq\",\"value\":") ++ decimal total) ++ codes "}" ≡ o ++ compact_text (total_json total)
total_text total o = appended_three o _ _ _ ∙ ap (λ text. o ++ text) (total_parts total)

appended_five : (o a b c d e : List ℕ) → ((((o ++ a) ++ b) ++ c) ++ d) ++ e ≡ o ++ (a ++ (b ++ (c ++ (d ++ e))))
appended_five o a b c d e = simp append_assoc

found_parts : (reply : SearchReply)
    → codes "{\"hits\":[" ++ (items_text false (items_of (map hit_json reply.hits)) ++ (codes ",\"total\":" ++ (compact_text (total_json reply.total) ++ codes "}"))) ≡ compact_text (hits_json reply)
unfolding escape_byte
found_parts reply = refl

pub found_text : (reply : SearchReply) (o : List ℕ)
    → ((((o ++ codes "{\"hits\":[") ++ items_text false (items_of (map hit_json reply.hits))) ++ codes ",\"total\":") ++ compact_text (total_json reply.total)) ++ codes "}" ≡ o ++ compact_text (hits_json reply)
found_text reply o = appended_five o _ _ _ _ _ ∙ ap (λ text. o ++ text) (found_parts reply)

opened_parts : (shards : ℕ) (reply : SearchReply) (context : Option TaskId)
    → opening context ++ (compact_text (shards_json shards (length reply.failed)) ++ (codes ",\"hits\":" ++ (compact_text (hits_json reply) ++ codes "}"))) ≡ compact_text (object_of (scroll_member context ++ (codes "_shards", shards_json shards (length reply.failed)) ∷ (codes "hits", hits_json reply) ∷ []))
unfolding escape_byte
opened_parts shards reply None = refl
opened_parts shards reply (Some id) = ap (λ text. codes "{\"_scroll_id\":" ++ text) (append_assoc (compact_text (string (task_id_text id))) (codes ",\"_shards\":") _)

-- the id of a context, appended part by part
pub opening_text : (id : TaskId) (o : List ℕ) → ((o ++ codes "{\"_scroll_id\":") ++ compact_text (string (task_id_text id))) ++ codes ",\"_shards\":" ≡ o ++ opening (Some id)
opening_text id o = appended_three o _ _ _

reply_parts : (shards : ℕ) (reply : SearchReply)
    → opening reply.context ++ (compact_text (shards_json shards (length reply.failed)) ++ (codes ",\"hits\":" ++ (compact_text (hits_json reply) ++ codes "}"))) ≡ compact_text (search_json shards reply)
reply_parts shards reply = opened_parts shards reply reply.context

pub reply_text : (shards : ℕ) (reply : SearchReply) (o : List ℕ)
    → ((((o ++ opening reply.context) ++ compact_text (shards_json shards (length reply.failed))) ++ codes ",\"hits\":") ++ compact_text (hits_json reply)) ++ codes "}" ≡ o ++ compact_text (search_json shards reply)
reply_text shards reply o = appended_five o _ _ _ _ _ ∙ ap (λ text. o ++ text) (reply_parts shards reply)

line_parts : (command : ℕ) (reply : Data)
    → codes "{\"command\":" ++ (decimal command ++ (codes ",\"reply\":" ++ (compact_text reply ++ codes "}\n"))) ≡ reply_line command reply
unfolding escape_byte
line_parts command reply = ap (λ rest. codes "{\"command\":" ++ rest) (ap (λ rest. decimal command ++ (codes ",\"reply\":" ++ rest)) (sym (append_assoc (compact_text reply) (codes "}") (codes "\n"))) ∙ sym (append_assoc (decimal command) (codes ",\"reply\":" ++ (compact_text reply ++ codes "}")) (codes "\n")))

-- a line whose reply is a text, appended part by part
pub text_parts : (command : ℕ) (text o : List ℕ) → ((((o ++ codes "{\"command\":") ++ decimal command) ++ codes ",\"reply\":") ++ text) ++ codes "}\n" ≡ o ++ text_line command text
text_parts command text o = appended_five o _ _ _ _ _

-- a line whose reply is the text of a value is that of the value
pub text_is_reply : (command : ℕ) (reply : Data) → text_line command (compact_text reply) ≡ reply_line command reply
text_is_reply command reply = line_parts command reply

-- what a get tells of a live task is the text of a value
pub running_is_json : (task : Data) (status : Option Counts) → running_text (compact_text task) status ≡ compact_text (running_json task status)
unfolding escape_byte
running_is_json task None = refl
running_is_json task (Some counts) = ap (λ text. codes "{\"completed\":false,\"status\":" ++ text) (append_assoc (compact_text (status_json counts)) (codes ",") (codes "\"task\":" ++ (compact_text task ++ codes "}")))

pub running_is_reply : (command : ℕ) (task : Data) (status : Option Counts) → text_line command (running_text (compact_text task) status) ≡ reply_line command (running_json task status)
running_is_reply command task status = ap (text_line command) (running_is_json task status) ∙ text_is_reply command (running_json task status)

-- the same, appended part by part
pub line_text : (command : ℕ) (reply : Data) (o : List ℕ)
    → ((((o ++ codes "{\"command\":") ++ decimal command) ++ codes ",\"reply\":") ++ compact_text reply) ++ codes "}\n" ≡ o ++ reply_line command reply
line_text command reply o = appended_five o _ _ _ _ _ ∙ ap (λ text. o ++ text) (line_parts command reply)

error_parts : (command : ℕ) (error : Data)
    → codes "{\"command\":" ++ (decimal command ++ (codes ",\"error\":" ++ (compact_text error ++ codes "}\n"))) ≡ error_line command error
unfolding escape_byte
error_parts command error = ap (λ rest. codes "{\"command\":" ++ rest) (ap (λ rest. decimal command ++ (codes ",\"error\":" ++ rest)) (sym (append_assoc (compact_text error) (codes "}") (codes "\n"))) ∙ sym (append_assoc (decimal command) (codes ",\"error\":" ++ (compact_text error ++ codes "}")) (codes "\n")))

pub error_text : (command : ℕ) (error : Data) (o : List ℕ)
    → ((((o ++ codes "{\"command\":") ++ decimal command) ++ codes ",\"error\":") ++ compact_text error) ++ codes "}\n" ≡ o ++ error_line command error
error_text command error o = appended_five o _ _ _ _ _ ∙ ap (λ text. o ++ text) (error_parts command error)

opened : (a r i : List ℕ) → (a ++ (r ++ 91 ∷ [])) ++ i ≡ (a ++ r) ++ 91 ∷ i
opened a r i = simp append_assoc

-- a line whose reply is a list that was appended item by item
pub list_text : (command : ℕ) (items : Items) (o out : List ℕ)
    → out ++ codes "]" ≡ (((o ++ codes "{\"command\":") ++ decimal command) ++ codes ",\"reply\":[") ++ items_text false items
    → out ++ codes "]}\n" ≡ o ++ reply_line command (array items)
list_text command items o out h =
    sym (append_assoc out (codes "]") (codes "}\n"))
    ∙ ap (λ text. text ++ codes "}\n") (h ∙ opened ((o ++ codes "{\"command\":") ++ decimal command) (codes ",\"reply\":") (items_text false items))
    ∙ line_text command (array items) o

-- one more item is appended, after a comma if one came before it, and there are more after it
item_more : {X : Type 0} (json : X → Data) (x : X) (rest here : List X) (later : Bool) (before between after all : List ℕ) → here ≡ x ∷ rest → between ≡ before ++ comma_if later → after ≡ between ++ compact_text (json x)
    → before ++ items_text later (items_of (map json here)) ≡ all → after ++ items_text true (items_of (map json rest)) ≡ all
item_more json x rest here later before between after all first comma new so_far =
    ap (λ text. text ++ items_text true (items_of (map json rest))) (new ∙ ap (λ text. text ++ compact_text (json x)) comma)
    ∙ append_assoc (before ++ comma_if later) (compact_text (json x)) (items_text true (items_of (map json rest)))
    ∙ append_assoc before (comma_if later) (compact_text (json x) ++ items_text true (items_of (map json rest)))
    ∙ sym (ap (λ items. before ++ items_text later (items_of (map json items))) first)
    ∙ so_far

here_first : {X : Type 0} (xs : List X) (i : ℕ) (x : X) → i < length xs → x ≡ get_or xs i x → drop i xs ≡ x ∷ drop (i + 1) xs
here_first xs i x h is = drop_more xs i x h ∙ ap (λ next. next ∷ drop (i + 1) xs) (sym is)

-- the same in a list, at a place
pub items_more : {X : Type 0} (json : X → Data) (xs : List X) (i : ℕ) (x : X) (later : Bool) (before between after all : List ℕ) → i < length xs → x ≡ get_or xs i x → between ≡ before ++ comma_if later → after ≡ between ++ compact_text (json x)
    → before ++ items_text later (items_of (map json (drop i xs))) ≡ all → after ++ items_text true (items_of (map json (drop (i + 1) xs))) ≡ all
items_more json xs i x later before between after all h is = item_more json x (drop (i + 1) xs) (drop i xs) later before between after all (here_first xs i x h is)
