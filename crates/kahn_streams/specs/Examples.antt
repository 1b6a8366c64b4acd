-- Believed. The definitions at work on small networks. Each statement holds by computation.
use Rattle.std.specs.Prelude.{◌≡◌, true, ℕ, zero, suc, [], ◌∷◌, pos, Some, None}
use Rattle.kahn_streams.specs.{declared.value.Value.TheVariants.Integer, declared.value.Failure.TheVariants.Overflow, declared.value.Line.TheVariants.Channel, declared.value.Line.TheVariants.Print, declared.tree.Role.TheVariants.Inner, declared.tree.Role.TheVariants.Input, declared.tree.Role.TheVariants.Output, Sample.no_input, Sample.g_body, Sample.h_of, Network.Schema, Network.Reads, Network.Writes, Network.Hands, Solution.Inputs, Solution.iterate, Solution.exec_at, Solution.ending, Solution.Ended, Solution.Waiting, Solution.Faulted}
use Rattle.kahn_streams.specs.declared.tree.Kind.TheVariants as KindOf
use Rattle.kahn_streams.specs.declared.tree.Operator.TheVariants as Op
use Rattle.kahn_streams.specs.Syntax as S

abbrev pub number_literal : ℕ → S.Expr
number_literal n = S.Literal (S.Number (pos n))

-- count(integer out W; integer N), with integer I
abbrev pub count_body : S.Stmt
count_body =
    S.While
    (S.Binary Op.Less (S.Variable 2) (S.Variable 1))
    (S.Seq (S.Send (S.Variable 2) 0) (S.Assign 2 (S.Binary Op.Add (S.Variable 2) (number_literal 1))))

abbrev pub counting : Schema
counting = record {
  channels = (KindOf.Integer, Output) ∷ [];
  instances = record { actuals = Writes 0 ∷ Hands (S.Number (pos 3)) ∷ []; variables = KindOf.Integer ∷ []; body = count_body } ∷ [];
}

-- with bound 0 nothing is done
-- double(integer in U; integer out W): the fourth wait finds nothing
abbrev pub doubling : S.Expr → S.Stmt
doubling e = S.Repeat (S.Send e 1)

abbrev pub doubling_network : Schema
doubling_network = record {
  channels = (KindOf.Integer, Input) ∷ ((KindOf.Integer, Output) ∷ []);
  instances = record { actuals = Reads 0 ∷ (Writes 1 ∷ []); variables = []; body = doubling (S.Binary Op.Multiply (number_literal 2) (S.Wait 0)) } ∷ [];
}

abbrev pub one_two_three : Inputs
one_two_three c = Integer (pos 1) ∷ (Integer (pos 2) ∷ (Integer (pos 3) ∷ []))

-- the greatest number plus 0, and then plus 1, which overflows
abbrev pub overflowing : Schema
overflowing = record {
  channels = (KindOf.Integer, Input) ∷ ((KindOf.Integer, Output) ∷ []);
  instances = record { actuals = Reads 0 ∷ (Writes 1 ∷ []); variables = []; body = doubling (S.Binary Op.Add (number_literal 9223372036854775807) (S.Wait 0)) } ∷ [];
}

abbrev pub zero_one : Inputs
zero_one c = Integer (pos 0) ∷ (Integer (pos 1) ∷ [])

-- a ring: each of the two waits for the other
abbrev pub copy_once : S.Stmt
copy_once = S.Seq (S.Assign 2 (S.Wait 0)) (S.Send (S.Variable 2) 1)

abbrev pub ring : Schema
ring = record {
  channels = (KindOf.Integer, Inner) ∷ ((KindOf.Integer, Inner) ∷ []);
  instances = record { actuals = Reads 0 ∷ (Writes 1 ∷ []); variables = KindOf.Integer ∷ []; body = copy_once } ∷
      (record { actuals = Reads 1 ∷ (Writes 0 ∷ []); variables = KindOf.Integer ∷ []; body = copy_once } ∷ []);
}

-- a channel from a process to itself
abbrev pub own_channel : Schema
own_channel = record {
  channels = (KindOf.Integer, Inner) ∷ [];
  instances = record {
    actuals = Reads 0 ∷ (Writes 0 ∷ []);
    variables = KindOf.Integer ∷ [];
    body = S.Seq (S.Send (number_literal 1) 1) (S.Seq (S.Print (S.Wait 0)) (S.Assign 2 (S.Wait 0)));
  } ∷ [];
}

-- two channels in turn: the second A stays unread
abbrev pub alternating : Schema
alternating = record {
  channels = (KindOf.Integer, Input) ∷ ((KindOf.Integer, Input) ∷ []);
  instances = record {
    actuals = Reads 0 ∷ (Reads 1 ∷ []);
    variables = KindOf.Integer ∷ [];
    body = S.Repeat (S.Seq (S.Assign 2 (S.Wait 0)) (S.Assign 2 (S.Wait 1)));
  } ∷ [];
}

abbrev pub many_and_nine : Inputs
many_and_nine zero = Integer (pos 1) ∷ (Integer (pos 2) ∷ (Integer (pos 3) ∷ []))
many_and_nine (suc c) = Integer (pos 9) ∷ []

-- a silent loop is cut after each number of events
abbrev pub silent : Schema
silent = record { channels = []; instances = record { actuals = []; variables = []; body = S.Repeat S.Skip } ∷ [] }

-- the sample network with f limited to four turns
abbrev pub f_limited : S.Stmt
f_limited =
    S.Seq
    (S.Assign 5 (S.Literal (S.Truth true)))
    (S.While
    (S.Binary Op.Less (S.Variable 4) (number_literal 4))
    (S.Seq
    (S.Assign 3 (S.Conditional (S.Variable 5) (S.Wait 0) (S.Wait 1)))
    (S.Seq
    (S.Print (S.Variable 3))
    (S.Seq
    (S.Send (S.Variable 3) 2)
    (S.Seq (S.Assign 5 (S.Not (S.Variable 5))) (S.Assign 4 (S.Binary Op.Add (S.Variable 4) (number_literal 1))))))))

abbrev pub limited_sample : Schema
limited_sample = record {
  channels = (KindOf.Integer, Inner) ∷ (KindOf.Integer, Inner) ∷ (KindOf.Integer, Inner) ∷ (KindOf.Integer, Inner) ∷ (KindOf.Integer, Inner) ∷ [];
  instances =
      record { actuals = Reads 1 ∷ Reads 2 ∷ Writes 0 ∷ []; variables = KindOf.Integer ∷ KindOf.Integer ∷ KindOf.Logical ∷ []; body = f_limited } ∷
      record { actuals = Reads 0 ∷ Writes 3 ∷ Writes 4 ∷ []; variables = KindOf.Integer ∷ KindOf.Logical ∷ []; body = g_body } ∷
      h_of 3 1 0 ∷ h_of 4 2 1 ∷ [];
}

-- ---- what they do

-- the counting process sends 0 1 2 and ends after 7 events: the failed test is paid for
pub record Counting : Type 0 where
  pub stream : iterate counting no_input 8 (Channel 0) ≡ Integer (pos 0) ∷ Integer (pos 1) ∷ Integer (pos 2) ∷ []
  pub end : ending (exec_at counting 8 0 (iterate counting no_input 8)).outcome ≡ Some Ended
  pub events : (exec_at counting 8 0 (iterate counting no_input 8)).events ≡ 7
  pub just : ending (exec_at counting 7 0 (iterate counting no_input 7)).outcome ≡ Some Ended
  pub cut : ending (exec_at counting 6 0 (iterate counting no_input 6)).outcome ≡ None
  pub nothing : (exec_at counting 0 0 (iterate counting no_input 0)).events ≡ 0

-- the doubling process doubles each value, and then waits
pub record Doubling : Type 0 where
  pub stream : iterate doubling_network one_two_three 11 (Channel 1) ≡ Integer (pos 2) ∷ (Integer (pos 4) ∷ (Integer (pos 6) ∷ []))
  pub end : ending (exec_at doubling_network 11 0 (iterate doubling_network one_two_three 11)).outcome ≡ Some (Waiting 0)
  pub events : (exec_at doubling_network 11 0 (iterate doubling_network one_two_three 11)).events ≡ 10
  pub dry : (exec_at doubling_network 11 0 (iterate doubling_network no_input 11)).events ≡ 1

-- a sum past 64 bits faults, and the fault is no event
pub record Overflowing : Type 0 where
  pub stream : iterate overflowing zero_one 7 (Channel 1) ≡ Integer (pos 9223372036854775807) ∷ []
  pub end : ending (exec_at overflowing 7 0 (iterate overflowing zero_one 7)).outcome ≡ Some (Faulted Overflow)
  pub events : (exec_at overflowing 7 0 (iterate overflowing zero_one 7)).events ≡ 5

-- in a ring where each waits first nothing is done
pub record Ring : Type 0 where
  pub end : ending (exec_at ring 5 1 (iterate ring no_input 5)).outcome ≡ Some (Waiting 0)
  pub events : (exec_at ring 5 1 (iterate ring no_input 5)).events ≡ 0

-- a process may read the channel that it writes
pub record OwnChannel : Type 0 where
  pub printed : iterate own_channel no_input 5 (Print 0) ≡ Integer (pos 1) ∷ []
  pub end : ending (exec_at own_channel 5 0 (iterate own_channel no_input 5)).outcome ≡ Some (Waiting 0)
  pub events : (exec_at own_channel 5 0 (iterate own_channel no_input 5)).events ≡ 3

-- a process that waits on one channel leaves the values of another unread
pub record Alternating : Type 0 where
  pub end : ending (exec_at alternating 8 0 (iterate alternating many_and_nine 8)).outcome ≡ Some (Waiting 1)
  pub events : (exec_at alternating 8 0 (iterate alternating many_and_nine 8)).events ≡ 5

-- a silent loop is cut after each number of events
pub record Silent : Type 0 where
  pub end : ending (exec_at silent 10 0 (iterate silent no_input 10)).outcome ≡ None
  pub events : (exec_at silent 10 0 (iterate silent no_input 10)).events ≡ 10

-- the sample network with f limited to four turns
pub record LimitedSample : Type 0 where
  pub printed : iterate limited_sample no_input 20 (Print 0) ≡ Integer (pos 0) ∷ Integer (pos 1) ∷ Integer (pos 0) ∷ Integer (pos 1) ∷ []
  pub events_f : (exec_at limited_sample 20 0 (iterate limited_sample no_input 20)).events ≡ 17
  pub events_g : (exec_at limited_sample 20 1 (iterate limited_sample no_input 20)).events ≡ 13
  pub events_first_h : (exec_at limited_sample 20 2 (iterate limited_sample no_input 20)).events ≡ 8
  pub events_second_h : (exec_at limited_sample 20 3 (iterate limited_sample no_input 20)).events ≡ 8
