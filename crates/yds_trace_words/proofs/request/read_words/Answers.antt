use Rattle.base.proofs.Common.{ℕ, List, map, sym, subst, Result, Ok, Err}
use Rattle.std.specs.Result.{IfOk}
use Rattle.yds_trace_words.specs.declared.fault.NoRequest.{NoRequest}
use Rattle.yds_trace_words.specs.declared.setting.Setting.{Setting as SettingKept}
use Rattle.yds_trace_words.specs.Words.{WordFault, Setting, ◌>>=◌}
use Rattle.yds_trace_words.specs.declared.request.Request.{Request as RequestMade}
use Rattle.yds_trace_words.specs.Request.{request_by, request_of, IsFitRequest}
use Rattle.yds_trace_words.specs.Views.{words_of, setting_read, Reads, request_read}
use Rattle.yds_trace_words.proofs.Fit.{request_fits}
use Rattle.yds_trace_words.proofs.request.read_words.Goals as goal

read_fits : (words : List (List ℕ)) (made : Result RequestMade NoRequest) → Reads request_read made (request_of words) → IfOk made (λ request. IsFitRequest (request_read request))
read_fits words (Ok request) is = request_fits words (request_read request) is
read_fits words (Err gone) is = tt

pub returns-clause-fit : goal.returns-clause-fit
returns-clause-fit c = read_fits (words_of c.args.words.now) c.request_by.result
    (subst (λ (found : Result (List Setting) WordFault). Reads request_read c.request_by.result (found >>= request_by)) (sym c.in_ok-given.ensures)
    (subst (λ (given : List SettingKept). Reads request_read c.request_by.result (request_by (map setting_read given))) c.deref.ensures.value c.request_by.ensures))
