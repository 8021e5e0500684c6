mod CommandSteps
mod ByteFronts
mod JudgeSteps
mod ReportSteps
mod RestSteps
mod RunSteps
mod ScriptSteps
mod WriteSteps
