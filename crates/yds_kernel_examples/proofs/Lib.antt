mod LineExamples
