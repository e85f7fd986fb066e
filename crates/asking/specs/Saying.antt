-- What is said of a line by its meaning, over any holder of a table: the line printed, and what is left.
use Rattle.std.specs.Prelude.{ℕ, List}
use Rattle.plain.specs.Requests.{Request, Result, call_least, answer, finish, next, load, instance, counts, join, why}
use Rattle.plain.specs.Requests.{detours}
use Rattle.replies.specs.Texts.{text_bad, reply_text}
use Rattle.asking.specs.Lines.{Meaning, bad, asks}

-- the line printed, its newline not counted, the table and out
pub record Said (S : Type 0) : Type 0 where
  pub text : List ℕ
  pub state : S
  pub out : List ℕ

-- only load and instance are lent out; the other calls leave it
abbrev pub out_left : Request → List ℕ → List ℕ → List ℕ
out_left (call_least cs x) out after = out
out_left (answer s cs) out after = out
out_left (finish s) out after = out
out_left (next s a) out after = out
out_left (load a o) out after = after
out_left (instance a o) out after = after
out_left counts out after = out
out_left (join f g ps s cs) out after = out
out_left (why cs) out after = out
out_left (detours gs b) out after = out

-- a line that means nothing prints bad and changes nothing
unfoldable pub said_of : {S : Type 0} → (S → Request → Result S) → Meaning → S → List ℕ → Said S
said_of calls bad s out = record { text = text_bad; state = s; out = out }
said_of calls (asks q) s out =
    let r = calls s q in
    record { text = reply_text r.reply r.out; state = r.state; out = out_left q out r.out }
